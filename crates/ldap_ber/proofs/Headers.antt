-- The header that is read is the one that is spelled, and a fault stands where there is none.
use Rattle.std.proofs.Common.{◌≡◌, ℕ, ◌-◌, ◌%◌, ◌<◌, false, ltb, eqb, List, [], ◌∷◌, ◌++◌, length, replicate, Result, Ok, Err, refl, sym, ap, subst, ◌∙◌, append_assoc, inl, inr, arith}
use Rattle.std.specs.Prelude.{MatchResult, IfOk, IsOkAnd, ◌↔◌}
use Rattle.std.proofs.lemmas.Result.{MatchResult-at_ok, MatchResult-at_err}
use Rattle.std.proofs.lemmas.Bool.{cond_both, eqb-true, eqb-false, eq-eqb, ne_eqb, lt-ltb, le-ltb}
use Rattle.std.proofs.lemmas.List.{length-append, length-replicate, append-nil}
use Rattle.ldap_ber.specs.declared.fault.BerFault.{BerFault}
use Rattle.ldap_ber.specs.declared.fault.BerFault.TheVariants.{HighTag, Short, Indefinite, LengthTooLong}
use Rattle.ldap_ber.specs.Number.{number}
use Rattle.ldap_ber.specs.Element.{AreOctets, IsLength}
use Rattle.ldap_ber.specs.private.Reading.{length_at, Gives}
use Rattle.ldap_ber.specs.Header.{IsHeader, IsHeaderFront, IsHeaderFault}
use Rattle.ldap_ber.specs.private.Header.{beside, header_at}
use Rattle.ldap_ber.proofs.Lengths.{TakesLength, LengthFault, none, few, no_end, many, length_reads, length_again, is_long}
use Rattle.ldap_ber.proofs.ElementLemmas.{octets-zeros, second}

-- a first octet, a length and a count of octets
abbrev pub Heading : Type 0
Heading = ℕ × ℕ × ℕ

pub record TakesHeader (octets : List ℕ) (x : Heading) : Type 0 where
  pub spelling : List ℕ
  pub rest : List ℕ
  pub is_header : IsHeader spelling x.0 x.1
  pub parts : octets ≡ spelling ++ rest
  pub count : x.2 ≡ length spelling

abbrev done : Heading → Result Heading BerFault
done x = Ok x

abbrev failed : BerFault → Result Heading BerFault
failed f = Err f

done_is : (x y : Heading) → done x ≡ done y → x ≡ y
done_is x y e = cc

-- ---- fronts

front_of : (octets more s : List ℕ) (a n : ℕ) → a % 32 < 31 → 0 < length more → IsLength s n → octets ++ more ≡
    a ∷ s → IsHeaderFront octets
front_of octets more s a n low some len e = record {
  more = more;
  some_more = some;
  header = a ∷ s;
  first = a;
  n = n;
  is_header = record { low_tag = low; len_octets = s; len = len; whole = refl };
  front = e;
}

front_length : (a b : ℕ) (bs : List ℕ) → a % 32 < 31 → AreOctets bs → 128 < b → b < 133 → length bs < b - 128 →
    IsHeaderFront (a ∷ b ∷ bs)
front_length a b bs low octets above small lt =
    let k = b - 128 - length bs in
    let digits = bs ++ replicate k 0 in
    let len : length digits ≡ b - 128 = simp (length-append, length-replicate) (omega arith) in
    front_of (a ∷ b ∷ bs) (replicate k 0) (b ∷ digits) a (number digits) low
    (simp length-replicate (omega arith))
    (is_long b digits (omega arith) (omega arith) small (octets-zeros bs k octets))
    refl

front_nothing : IsHeaderFront []
front_nothing = front_of [] (4 ∷ 0 ∷ []) (0 ∷ []) 4 0 (omega arith) (omega arith) (omega arith, refl) refl

front_first : (a : ℕ) → a % 32 < 31 → IsHeaderFront (a ∷ [])
front_first a low = front_of (a ∷ []) (0 ∷ []) (0 ∷ []) a 0 low (omega arith) (omega arith, refl) refl

-- ---- what is read

length_fault : (a : ℕ) (bs : List ℕ) (f : BerFault) → a % 32 < 31 → AreOctets bs → LengthFault bs f →
    IsHeaderFault f (a ∷ bs)
length_fault a [] f low octets none = front_first a low
length_fault a (b ∷ bs) f low octets (few above small lt) = front_length a b bs low octets.1 above small lt
length_fault a (b ∷ bs) f low octets (no_end e) = (low, e)
length_fault a (b ∷ bs) f low octets (many lt) = (low, lt)

body_reads : (a : ℕ) (bs : List ℕ) (r : Result (ℕ × List ℕ) BerFault) → a % 32 < 31 → AreOctets bs →
    MatchResult r (TakesLength bs) (LengthFault bs)
    → MatchResult (beside a (length (a ∷ bs)) r) (TakesHeader (a ∷ bs)) (λ f. IsHeaderFault f (a ∷ bs))
body_reads a bs (Ok x) low octets t = record {
  spelling = a ∷ t.octets;
  rest = x.1;
  is_header = record { low_tag = low; len_octets = t.octets; len = t.is_length; whole = refl };
  parts = ap (λ (xs : List ℕ). a ∷ xs) t.parts;
  count = omega (arith, ap length t.parts, length-append t.octets x.1);
}
body_reads a bs (Err f) low octets l = length_fault a bs f low octets l

header_reads : (octets : List ℕ) → AreOctets octets → MatchResult (header_at octets) (TakesHeader octets)
    (λ f. IsHeaderFault f octets)
header_reads [] h = front_nothing
header_reads (a ∷ bs) h =
    cond_both (eqb (a % 32) 31) (Err HighTag) (beside a (length (a ∷ bs)) (length_at bs))
    (λ r. MatchResult r (TakesHeader (a ∷ bs)) (λ f. IsHeaderFault f (a ∷ bs)))
    (λ e. eqb-true _ _ e)
    (λ e.
    let ne : a % 32 ≡ 31 → ⊥ = eqb-false _ _ e in
    let low : a % 32 < 31 = omega arith in
    body_reads a bs (length_at bs) low h.1 (length_reads bs h.1))

-- ---- what is spelled

header_again : (s rest : List ℕ) (first n : ℕ) → IsHeader s first n → header_at (s ++ rest) ≡ Ok (first, n, length s)
header_again s rest first n is =
    let e : s ++ rest ≡ first ∷ (is.len_octets ++ rest) = ap (λ (xs : List ℕ). xs ++ rest) is.whole in
    let tag : eqb (first % 32) 31 ≡ false = ne_eqb _ _ (λ e. omega (arith, is.low_tag)) in
    let len = length_again is.len_octets n rest is.len in
    let count : length (first ∷ (is.len_octets ++ rest)) - length rest ≡ length s =
    omega (arith, length-append is.len_octets rest, ap length is.whole) in
    ap header_at e ∙ rw (tag, len) (ap (λ (k : ℕ). Ok (first, n, k)) count)

-- ---- faults

short_result : (octets : List ℕ) (front : IsHeaderFront octets) (r : Result Heading BerFault) →
    MatchResult r (TakesHeader octets) (λ f. IsHeaderFault f octets) → r ≡ Err Short
short_result octets front (Err Short) h = refl
short_result [] front (Err HighTag) h = absurd h
short_result (a ∷ bs) front (Err HighTag) h =
    let e : (a ∷ bs) ++ front.more ≡ front.first ∷ front.is_header.len_octets = front.front ∙ front.is_header.whole in
    let same : a ≡ front.first = cc in
    absurd (omega (arith, h, same, front.is_header.low_tag))
short_result [] front (Err Indefinite) h = absurd h
short_result (a ∷ []) front (Err Indefinite) h = absurd h
short_result (a ∷ b ∷ bs) front (Err Indefinite) h =
    let e : (a ∷ b ∷ bs) ++ front.more ≡ front.first ∷ front.is_header.len_octets = front.front
    ∙ front.is_header.whole in
    let tail : b ∷ (bs ++ front.more) ≡ front.is_header.len_octets = cc in
    absurd (second b (bs ++ front.more) front.is_header.len_octets [] front.n front.is_header.len (tail
    ∙ sym (append-nil front.is_header.len_octets)) (inl h.1))
short_result [] front (Err LengthTooLong) h = absurd h
short_result (a ∷ []) front (Err LengthTooLong) h = absurd h
short_result (a ∷ b ∷ bs) front (Err LengthTooLong) h =
    let e : (a ∷ b ∷ bs) ++ front.more ≡ front.first ∷ front.is_header.len_octets = front.front
    ∙ front.is_header.whole in
    let tail : b ∷ (bs ++ front.more) ≡ front.is_header.len_octets = cc in
    absurd (second b (bs ++ front.more) front.is_header.len_octets [] front.n front.is_header.len (tail
    ∙ sym (append-nil front.is_header.len_octets)) (inr h.1))
short_result octets front (Ok x) t =
    let again₁ = header_again t.spelling (t.rest ++ front.more) x.0 x.1 t.is_header in
    let again₂ = header_again front.header [] front.first front.n front.is_header in
    let whole : t.spelling ++ (t.rest ++ front.more) ≡ front.header ++ [] =
    sym (append_assoc t.spelling t.rest front.more) ∙ ap (λ (xs : List ℕ). xs ++ front.more) (sym t.parts)
    ∙ front.front ∙ sym (append-nil front.header) in
    let same = done_is (x.0, x.1, length t.spelling) (front.first, front.n, length front.header) (sym again₁
    ∙ ap header_at whole ∙ again₂) in
    let sizes : length t.spelling ≡ length front.header = ap (λ (r : Heading). r.2) same in
    absurd (omega (
      arith,
      front.some_more,
      sizes,
      ap length t.parts,
      ap length front.front,
      length-append t.spelling t.rest,
      length-append octets front.more,
    ))

again : (octets : List ℕ) (f : BerFault) → AreOctets octets → IsHeaderFault f octets → header_at octets ≡ Err f
again octets Short h front = short_result octets front (header_at octets) (header_reads octets h)
again [] HighTag h e = absurd e
again [] Indefinite h e = absurd e
again [] LengthTooLong h e = absurd e
again (a ∷ []) Indefinite h e = absurd e
again (a ∷ []) LengthTooLong h e = absurd e
again (a ∷ bs) HighTag h e = rw (eq-eqb (a % 32) 31 e) refl
again (a ∷ b ∷ bs) Indefinite h e =
    let tag : eqb (a % 32) 31 ≡ false = ne_eqb _ _ (λ z. omega (arith, e.0)) in
    let high : ltb b 128 ≡ false = le-ltb b 128 (omega (arith, e.1)) in
    rw (tag, high, eq-eqb b 128 e.1) refl
again (a ∷ b ∷ bs) LengthTooLong h e =
    let tag : eqb (a % 32) 31 ≡ false = ne_eqb _ _ (λ z. omega (arith, e.0)) in
    let high : ltb b 128 ≡ false = le-ltb b 128 (omega (arith, e.1)) in
    let end : eqb b 128 ≡ false = ne_eqb b 128 (λ z. omega (arith, e.1)) in
    rw (tag, high, end, lt-ltb 132 b e.1) refl

-- ---- results seen by a view

pub found : {X : Type 0} (view : X → Heading) (octets : List ℕ) (r : Result X BerFault) → AreOctets octets →
    Gives view r (header_at octets) → IfOk r (λ x. TakesHeader octets (view x))
found view octets (Ok x) h given = MatchResult-at_ok (TakesHeader octets) (λ f. IsHeaderFault f octets) (view x) given
    (header_reads octets h)
found view octets (Err f) h given = tt

pub only : {X : Type 0} (view : X → Heading) (octets s rest : List ℕ) (first n : ℕ) (r : Result X BerFault) →
    IsHeader s first n → octets ≡ s ++ rest → Gives view r (header_at octets)
    → IsOkAnd r (λ x. view x ≡ (first, n, length s))
only view octets s rest first n (Ok x) is e given =
    let same : done (view x) ≡ done (first, n, length s) = sym given ∙ ap header_at e ∙ header_again s rest first n is
    in cc
only view octets s rest first n (Err f) is e given =
    let same : failed f ≡ done (first, n, length s) = sym given ∙ ap header_at e ∙ header_again s rest first n is
    in absurd cc

pub exact : {X : Type 0} (view : X → Heading) (octets : List ℕ) (r : Result X BerFault) (f : BerFault) →
    AreOctets octets → Gives view r (header_at octets) → (r ≡ Err f) ↔ IsHeaderFault f octets
exact view octets (Ok x) f h given = (
  λ e. absurd cc,
  λ is. let same : done (view x) ≡ failed f = sym given
      ∙ again octets f h is in absurd cc,
)
exact view octets (Err g) f h given = (
  λ e. let same : g ≡ f = cc in subst (λ (k : BerFault). IsHeaderFault k octets) same
      (MatchResult-at_err (TakesHeader octets) (λ k. IsHeaderFault k octets) g given (header_reads octets h)),
  λ is. let same : failed g ≡ failed f = sym given ∙ again octets f h is in let q : g ≡ f =
      cc in ap (λ (k : BerFault). Err k) q,
)
