-- The element that is read is the one that is spelled, and a fault stands where there is none.
use Rattle.std.proofs.Common.{◌≡◌, ℕ, zero, suc, ◌-◌, ◌%◌, ◌<◌, ◌≤◌, false, ltb, eqb, List, [], ◌∷◌, ◌++◌, length, take, drop, replicate, Result, Ok, Err, refl, sym, ap, subst, ◌∙◌, append_assoc, ◌⊎◌, inl, inr, arith}
use Rattle.std.specs.Prelude.{MatchResult, IfOk, IsOkAnd, ◌↔◌}
use Rattle.std.proofs.lemmas.Result.{MatchResult-at_ok, MatchResult-at_err}
use Rattle.std.proofs.lemmas.Bool.{cond_both, ltb-true, ltb-false, lt-ltb, le-ltb, eqb-true, eqb-false, eq-eqb, ne_eqb}
use Rattle.std.proofs.lemmas.List.{take_at, drop_at, take-append-drop, length-append, length-take, length-replicate, append-nil, append_cancel_right}
use Rattle.ldap_ber.specs.declared.fault.BerFault.{BerFault}
use Rattle.ldap_ber.specs.declared.fault.BerFault.TheVariants.{HighTag, Short, Indefinite, LengthTooLong}
use Rattle.ldap_ber.specs.Number.{number}
use Rattle.ldap_ber.specs.Element.{AreOctets, IsLength, IsElement, IsFront}
use Rattle.ldap_ber.specs.Reading.{IsFault}
use Rattle.ldap_ber.specs.private.Reading.{length_at, content_at, body_at, with_first, element_at, Gives}
use Rattle.ldap_ber.proofs.Lengths.{TakesLength, LengthFault, none, few, no_end, many, length_reads, length_again, is_long}

-- a first octet, its element's content and what follows
abbrev pub Read : Type 0
Read = ℕ × List ℕ × List ℕ

pub record TakesElement (octets : List ℕ) (x : Read) : Type 0 where
  pub spelling : List ℕ
  pub is_element : IsElement spelling x.0 x.1
  pub parts : octets ≡ spelling ++ x.2

-- a length begins with no 128, and with nothing above 132
pub second : (b : ℕ) (rest s content : List ℕ) (n : ℕ) → IsLength s n → b ∷ rest ≡ s ++ content → (b ≡ 128)
    ⊎ (132 < b) → ⊥
second b rest [] content n is e h = is
second b rest (x ∷ []) content n is e h = let same : b ≡ x = cc in elim h
    [ inl p ↦ omega (arith, is.0, same, p) | inr p ↦ omega (arith, is.0, same, p) ]
second b rest (x ∷ y ∷ ys) content n is e h = let same : b ≡ x = cc in elim h
    [ inl p ↦ omega (arith, is.0, same, p) | inr p ↦ omega (arith, is.1, same, p) ]

abbrev done : Read → Result Read BerFault
done x = Ok x

abbrev failed : BerFault → Result Read BerFault
failed f = Err f

done_is : (x y : Read) → done x ≡ done y → x ≡ y
done_is x y e = cc

-- ---- fronts

pub octets-zeros : (bs : List ℕ) (k : ℕ) → AreOctets bs → AreOctets (bs ++ replicate k 0)
octets-zeros [] zero h = tt
octets-zeros [] (suc k) h = (omega arith, octets-zeros [] k tt)
octets-zeros (b ∷ bs) k h = (h.0, octets-zeros bs k h.1)

front_of : (octets more s content : List ℕ) (a : ℕ) → a % 32 < 31 → 0 < length more → IsLength s (length content) →
    octets ++ more ≡ a ∷ s ++ content → IsFront octets
front_of octets more s content a low some len e = record {
  more = more;
  some_more = some;
  element = a ∷ s ++ content;
  first = a;
  content = content;
  is_element = record { low_tag = low; len_octets = s; len = len; whole = refl };
  front = e;
}

front_length : (a b : ℕ) (bs : List ℕ) → a % 32 < 31 → AreOctets bs → 128 < b → b < 133 → length bs < b - 128 →
    IsFront (a ∷ b ∷ bs)
front_length a b bs low octets above small lt =
    let k = b - 128 - length bs in
    let digits = bs ++ replicate k 0 in
    let n = number digits in
    let len : length digits ≡ b - 128 = simp (length-append, length-replicate) (omega arith) in
    let is_length : IsLength (b ∷ digits) n = is_long b digits (omega arith) (omega arith) small
    (octets-zeros bs k octets) in
    let same : length {A = ℕ} (replicate n 0) ≡ n = length-replicate n 0 in
    front_of (a ∷ b ∷ bs) (replicate k 0 ++ replicate n 0) (b ∷ digits) (replicate n 0) a low
    (simp (length-append, length-replicate) (omega arith))
    (rw same is_length)
    (ap (λ (xs : List ℕ). a ∷ b ∷ xs) (sym (append_assoc bs (replicate k 0) (replicate n 0))))

front_content : (a n : ℕ) (bs rest : List ℕ) → a % 32 < 31 → TakesLength bs (n, rest) → length rest < n →
    IsFront (a ∷ bs)
front_content a n bs rest low t lt =
    let k = n - length rest in
    let content = rest ++ replicate k 0 in
    let len : length content ≡ n = simp (length-append, length-replicate) (omega arith) in
    front_of (a ∷ bs) (replicate k 0) t.octets content a low
    (simp length-replicate (omega arith))
    (rw len t.is_length)
    (ap (λ (xs : List ℕ). (a ∷ xs) ++ replicate k 0) t.parts ∙ ap (λ (xs : List ℕ). a ∷ xs)
    (append_assoc t.octets rest (replicate k 0)))

front_nothing : IsFront []
front_nothing = front_of [] (4 ∷ 0 ∷ []) (0 ∷ []) [] 4 (omega arith) (omega arith) (omega arith, refl) refl

front_first : (a : ℕ) → a % 32 < 31 → IsFront (a ∷ [])
front_first a low = front_of (a ∷ []) (0 ∷ []) (0 ∷ []) [] a low (omega arith) (omega arith, refl) refl

-- ---- what is read

length_fault : (a : ℕ) (bs : List ℕ) (f : BerFault) → a % 32 < 31 → AreOctets bs → LengthFault bs f → IsFault f (a ∷ bs)
length_fault a [] f low octets none = front_first a low
length_fault a (b ∷ bs) f low octets (few above small lt) = front_length a b bs low octets.1 above small lt
length_fault a (b ∷ bs) f low octets (no_end e) = (low, e)
length_fault a (b ∷ bs) f low octets (many lt) = (low, lt)

content_reads : (a n : ℕ) (bs rest : List ℕ) → a % 32 < 31 → TakesLength bs (n, rest)
    → MatchResult (with_first a (content_at n rest)) (TakesElement (a ∷ bs)) (λ f. IsFault f (a ∷ bs))
content_reads a n bs rest low t =
    cond_both (ltb (length rest) n) (Err Short) (Ok (take n rest, drop n rest))
    (λ r. MatchResult (with_first a r) (TakesElement (a ∷ bs)) (λ f. IsFault f (a ∷ bs)))
    (λ e. front_content a n bs rest low t (ltb-true _ _ e))
    (λ e.
    let enough : n ≤ length rest = ltb-false _ _ e in
    let len : length (take n rest) ≡ n = omega (arith, length-take n rest) in
    record {
      spelling = a ∷ t.octets ++ take n rest;
      is_element = record { low_tag = low; len_octets = t.octets; len = rw len t.is_length; whole = refl };
      parts = ap (λ (xs : List ℕ). a ∷ xs) (t.parts ∙ ap (λ (xs : List ℕ). t.octets ++ xs)
          (sym (take-append-drop n rest)) ∙ sym (append_assoc t.octets (take n rest) (drop n rest)));
    })

body_reads : (a : ℕ) (bs : List ℕ) (r : Result (ℕ × List ℕ) BerFault) → a % 32 < 31 → AreOctets bs →
    MatchResult r (TakesLength bs) (LengthFault bs)
    → MatchResult (with_first a (body_at r)) (TakesElement (a ∷ bs)) (λ f. IsFault f (a ∷ bs))
body_reads a bs (Ok x) low octets t = content_reads a x.0 bs x.1 low t
body_reads a bs (Err f) low octets l = length_fault a bs f low octets l

pub element_reads : (octets : List ℕ) → AreOctets octets → MatchResult (element_at octets) (TakesElement octets)
    (λ f. IsFault f octets)
element_reads [] h = front_nothing
element_reads (a ∷ bs) h =
    cond_both (eqb (a % 32) 31) (Err HighTag) (with_first a (body_at (length_at bs)))
    (λ r. MatchResult r (TakesElement (a ∷ bs)) (λ f. IsFault f (a ∷ bs)))
    (λ e. eqb-true _ _ e)
    (λ e.
    let ne : a % 32 ≡ 31 → ⊥ = eqb-false _ _ e in
    let low : a % 32 < 31 = omega arith in
    body_reads a bs (length_at bs) low h.1 (length_reads bs h.1))

-- ---- what is spelled

pub element_again : (s content rest : List ℕ) (first : ℕ) → IsElement s first content → element_at (s ++ rest) ≡
    Ok (first, content, rest)
element_again s content rest first is =
    let regrouped : s ++ rest ≡ first ∷ (is.len_octets ++ (content ++ rest)) = ap (λ (xs : List ℕ). xs ++ rest)
    is.whole ∙ ap (λ (xs : List ℕ). first ∷ xs) (append_assoc is.len_octets content rest) in
    let tag : eqb (first % 32) 31 ≡ false = ne_eqb _ _ (λ e. omega (arith, is.low_tag)) in
    let len = length_again is.len_octets (length content) (content ++ rest) is.len in
    let enough : ltb (length (content ++ rest)) (length content) ≡ false =
    le-ltb _ _ (omega (arith, length-append content rest)) in
    ap element_at regrouped ∙ rw (
      tag,
      len,
      enough,
      take_at content rest (length
          content) refl,
      drop_at content rest (length content) refl,
    ) refl

pub one : (a b x y c d : List ℕ) (f g : ℕ) → IsElement a f c → IsElement b g d → a ++ x ≡ b ++ y → (a ≡ b) × (f ≡ g)
    × (c ≡ d)
one a b x y c d f g is₁ is₂ e =
    let same : (f, c, x) ≡ (g, d, y) = done_is (f, c, x) (g, d, y) (sym (element_again a c x f is₁) ∙ ap element_at e
    ∙ element_again b d y g is₂) in
    let first : f ≡ g = ap (λ (r : Read). r.0) same in
    let content : c ≡ d = ap (λ (r : Read). r.1) same in
    let rest : x ≡ y = ap (λ (r : Read). r.2) same in
    (append_cancel_right a b y (ap (λ (t : List ℕ). a ++ t) (sym rest) ∙ e), first, content)

-- ---- faults

-- octets that could go on to an element are cut short
short_result : (octets : List ℕ) (front : IsFront octets) (r : Result Read BerFault) →
    MatchResult r (TakesElement octets) (λ f. IsFault f octets) → r ≡ Err Short
short_result octets front (Err Short) h = refl
short_result (a ∷ bs) front (Err HighTag) h =
    let e : (a ∷ bs) ++ front.more ≡ front.first ∷ (front.is_element.len_octets ++ front.content) = front.front
    ∙ front.is_element.whole in
    let same : a ≡ front.first = cc in
    absurd (omega (arith, h, same, front.is_element.low_tag))
short_result [] front (Err HighTag) h = absurd h
short_result [] front (Err Indefinite) h = absurd h
short_result (a ∷ []) front (Err Indefinite) h = absurd h
short_result (a ∷ b ∷ bs) front (Err Indefinite) h =
    let e : (a ∷ b ∷ bs) ++ front.more ≡ front.first ∷ (front.is_element.len_octets ++ front.content) = front.front
    ∙ front.is_element.whole in
    absurd (second b (bs ++ front.more) front.is_element.len_octets front.content (length front.content)
    front.is_element.len (cc) (inl h.1))
short_result [] front (Err LengthTooLong) h = absurd h
short_result (a ∷ []) front (Err LengthTooLong) h = absurd h
short_result (a ∷ b ∷ bs) front (Err LengthTooLong) h =
    let e : (a ∷ b ∷ bs) ++ front.more ≡ front.first ∷ (front.is_element.len_octets ++ front.content) = front.front
    ∙ front.is_element.whole in
    absurd (second b (bs ++ front.more) front.is_element.len_octets front.content (length front.content)
    front.is_element.len (cc) (inr h.1))
short_result octets front (Ok x) t =
    let again₁ = element_again t.spelling x.1 (x.2 ++ front.more) x.0 t.is_element in
    let again₂ = element_again front.element front.content [] front.first front.is_element in
    let whole : t.spelling ++ (x.2 ++ front.more) ≡ front.element ++ [] = sym (append_assoc t.spelling x.2 front.more)
    ∙ ap (λ (xs : List ℕ). xs ++ front.more) (sym t.parts) ∙ front.front ∙ sym (append-nil front.element) in
    let same = done_is (x.0, x.1, x.2 ++ front.more) (front.first, front.content, []) (sym again₁
    ∙ ap element_at whole ∙ again₂) in
    let none : x.2 ++ front.more ≡ [] = ap (λ (r : Read). r.2) same in
    absurd (omega (arith, front.some_more, length-append x.2 front.more, ap length none))

pub fault_again : (octets : List ℕ) (f : BerFault) → AreOctets octets → IsFault f octets → element_at octets ≡ Err f
fault_again octets Short h front = short_result octets front (element_at octets) (element_reads octets h)
fault_again [] HighTag h e = absurd e
fault_again [] Indefinite h e = absurd e
fault_again [] LengthTooLong h e = absurd e
fault_again (a ∷ []) Indefinite h e = absurd e
fault_again (a ∷ []) LengthTooLong h e = absurd e
fault_again (a ∷ bs) HighTag h e = rw (eq-eqb (a % 32) 31 e) refl
fault_again (a ∷ b ∷ bs) Indefinite h e =
    let tag : eqb (a % 32) 31 ≡ false = ne_eqb _ _ (λ z. omega (arith, e.0)) in
    let high : ltb b 128 ≡ false = le-ltb b 128 (omega (arith, e.1)) in
    rw (tag, high, eq-eqb b 128 e.1) refl
fault_again (a ∷ b ∷ bs) LengthTooLong h e =
    let tag : eqb (a % 32) 31 ≡ false = ne_eqb _ _ (λ z. omega (arith, e.0)) in
    let high : ltb b 128 ≡ false = le-ltb b 128 (omega (arith, e.1)) in
    let end : eqb b 128 ≡ false = ne_eqb b 128 (λ z. omega (arith, e.1)) in
    rw (tag, high, end, lt-ltb 132 b e.1) refl

-- ---- results seen by a view

pub found : {X : Type 0} (view : X → Read) (octets : List ℕ) (r : Result X BerFault) → AreOctets octets →
    Gives view r (element_at octets) → IfOk r (λ x. TakesElement octets (view x))
found view octets (Ok x) h given = MatchResult-at_ok (TakesElement octets) (λ f. IsFault f octets) (view x) given
    (element_reads octets h)
found view octets (Err f) h given = tt

pub only : {X : Type 0} (view : X → Read) (octets s content rest : List ℕ) (first : ℕ) (r : Result X BerFault) →
    IsElement s first content → octets ≡ s ++ rest → Gives view r (element_at octets)
    → IsOkAnd r (λ x. view x ≡ (first, content, rest))
only view octets s content rest first (Ok x) is e given =
    let same : done (view x) ≡ done (first, content, rest) = sym given ∙ ap element_at e ∙ element_again s content
    rest first is in cc
only view octets s content rest first (Err f) is e given =
    let same : failed f ≡ done (first, content, rest) = sym given ∙ ap element_at e ∙ element_again s content rest
    first is in absurd cc

pub exact : {X : Type 0} (view : X → Read) (octets : List ℕ) (r : Result X BerFault) (f : BerFault) →
    AreOctets octets → Gives view r (element_at octets) → (r ≡ Err f) ↔ IsFault f octets
exact view octets (Ok x) f h given = (
  λ e. absurd cc,
  λ is. let same : done (view x) ≡ failed f = sym given
      ∙ fault_again octets f h is in absurd cc,
)
exact view octets (Err g) f h given = (
  λ e. let same : g ≡ f = cc in subst (λ (k : BerFault). IsFault k octets) same
      (MatchResult-at_err (TakesElement octets) (λ k. IsFault k octets) g given (element_reads octets h)),
  λ is. let same : failed g ≡ failed f = sym given ∙ fault_again octets f h is in let q : g ≡ f =
      cc in ap (λ (k : BerFault). Err k) q,
)

pub IsOkAnd-weaker : {X : Type 0} (r : Result X BerFault) (P Q : X → Type 0) → ((x : X) → P x → Q x) → IsOkAnd r P →
    IsOkAnd r Q
IsOkAnd-weaker (Ok x) P Q w h = w x h
IsOkAnd-weaker (Err f) P Q w h = h
