-- The octets of a length that are read are those that spell it.
use Rattle.std.proofs.Common.{◌≡◌, ℕ, ◌+◌, ◌-◌, ◌<◌, ◌≤◌, Bool, true, false, cond, ltb, eqb, List, [], ◌∷◌, ◌++◌, length, take, drop, Result, Ok, Err, refl, sym, ap, ◌⊎◌, inl, inr, arith}
use Rattle.std.proofs.lemmas.Bool.{cond_both, ltb-true, ltb-false, lt-ltb, le-ltb, eqb-true, eqb-false, ne_eqb}
use Rattle.std.proofs.lemmas.List.{take_at, drop_at, take-append-drop, length-append, length-take}
use Rattle.std.specs.Prelude.{MatchResult}
use Rattle.ldap_ber.specs.declared.fault.BerFault.{BerFault}
use Rattle.ldap_ber.specs.declared.fault.BerFault.TheVariants.{Short, Indefinite, LengthTooLong}
use Rattle.ldap_ber.specs.Number.{number}
use Rattle.ldap_ber.specs.Element.{AreOctets, IsLength}
use Rattle.ldap_ber.specs.private.Reading.{length_at}
use Rattle.ldap_ber.proofs.Numbers.{octets-take}

pub chosen : {A : Type 0} (b : Bool) (x y z : A) → cond b x y ≡ z → ((b ≡ true) × (x ≡ z)) ⊎ ((b ≡ false) × (y ≡ z))
chosen true x y z e = inl (refl, e)
chosen false x y z e = inr (refl, e)

-- the octets of a length at the front
pub record TakesLength (bs : List ℕ) (x : ℕ × List ℕ) : Type 0 where
  pub octets : List ℕ
  pub is_length : IsLength octets x.0
  pub parts : bs ≡ octets ++ x.1

pub is_long : (a : ℕ) (bs : List ℕ) → 0 < length bs → a ≡ 128 + length bs → a < 133 → AreOctets bs →
    IsLength (a ∷ bs) (number bs)
is_long a [] some e small octets = absurd (omega arith)
is_long a (b ∷ bs) some e small octets = (omega arith, small, octets, refl)

-- what a length octet says, by the tests of length_at
pub data LengthCase (a : ℕ) (bs : List ℕ) : Result (ℕ × List ℕ) BerFault → Type 0 where
  short : a < 128 → LengthCase a bs (Ok (a, bs))
  indefinite : a ≡ 128 → LengthCase a bs (Err Indefinite)
  too_long : 132 < a → LengthCase a bs (Err LengthTooLong)
  cut : 128 < a → a < 133 → length bs < a - 128 → LengthCase a bs (Err Short)
  long : 128 < a → a < 133 → a - 128 ≤ length bs → LengthCase a bs (Ok (number (take (a - 128) bs), drop (a - 128) bs))

pub length_case : (a : ℕ) (bs : List ℕ) → LengthCase a bs (length_at (a ∷ bs))
length_case a bs =
    cond_both (ltb a 128) _ _ (LengthCase a bs) (λ e. short (ltb-true a 128 e)) (λ e₁.
    let high : 128 ≤ a = ltb-false a 128 e₁ in
    cond_both (eqb a 128) _ _ (LengthCase a bs) (λ e. indefinite (eqb-true a 128 e)) (λ e₂.
    let ne : a ≡ 128 → ⊥ = eqb-false a 128 e₂ in
    let above : 128 < a = omega arith in
    cond_both (ltb 132 a) _ _ (LengthCase a bs) (λ e. too_long (ltb-true 132 a e)) (λ e₃.
    let small : a < 133 = omega (arith, ltb-false 132 a e₃) in
    cond_both (ltb (length bs) (a - 128)) _ _ (LengthCase a bs) (λ e. cut above small (ltb-true _ _ e))
    (λ e. long above small (ltb-false _ _ e)))))

-- what stands in the place of a length
pub data LengthFault : List ℕ → BerFault → Type 0 where
  none : LengthFault [] Short
  few : {a : ℕ} {bs : List ℕ} → 128 < a → a < 133 → length bs < a - 128 → LengthFault (a ∷ bs) Short
  no_end : {a : ℕ} {bs : List ℕ} → a ≡ 128 → LengthFault (a ∷ bs) Indefinite
  many : {a : ℕ} {bs : List ℕ} → 132 < a → LengthFault (a ∷ bs) LengthTooLong

takes : (a : ℕ) (bs : List ℕ) (r : Result (ℕ × List ℕ) BerFault) → AreOctets (a ∷ bs) → LengthCase a bs r →
    MatchResult r (TakesLength (a ∷ bs)) (LengthFault (a ∷ bs))
takes a bs (Ok y) octets (short small) = record { octets = a ∷ []; is_length = (small, refl); parts = refl }
takes a bs (Ok y) octets (long above small enough) =
    let len : length (take (a - 128) bs) ≡ a - 128 = omega (arith, length-take (a - 128) bs) in
    record {
      octets = a ∷ take (a - 128) bs;
      is_length = is_long a (take (a - 128) bs) (omega arith) (omega arith) small (octets-take (a - 128) bs octets.1);
      parts = ap (λ (xs : List ℕ). a ∷ xs) (sym (take-append-drop (a - 128) bs));
    }
takes a bs (Err f) octets (indefinite e) = no_end e
takes a bs (Err f) octets (too_long lt) = many lt
takes a bs (Err f) octets (cut above small lt) = few above small lt

-- what is read spells a length, or a fault is there
pub length_reads : (bs : List ℕ) → AreOctets bs → MatchResult (length_at bs) (TakesLength bs) (LengthFault bs)
length_reads [] octets = none
length_reads (a ∷ bs) octets = takes a bs (length_at (a ∷ bs)) octets (length_case a bs)

-- what spells a length is read
pub length_again : (s : List ℕ) (n : ℕ) (rest : List ℕ) → IsLength s n → length_at (s ++ rest) ≡ Ok (n, rest)
length_again [] n rest h = absurd h
length_again (a ∷ []) n rest h = rw (lt-ltb a 128 h.0) (ap (λ (k : ℕ). Ok (k, rest)) (sym h.1))
length_again (a ∷ b ∷ bs) n rest h =
    let e₁ : ltb a 128 ≡ false = le-ltb a 128 (omega (arith, h.0)) in
    let e₂ : eqb a 128 ≡ false = ne_eqb a 128 (λ e. omega (arith, h.0)) in
    let e₃ : ltb 132 a ≡ false = le-ltb 132 a (omega (arith, h.1)) in
    let k : length (b ∷ bs) ≡ a - 128 = omega (arith, h.0) in
    let e₄ : ltb (length ((b ∷ bs) ++ rest)) (a - 128) ≡ false =
    le-ltb _ _ (omega (arith, length-append (b ∷ bs) rest)) in
    rw (e₁, e₂, e₃, e₄, take_at (b ∷ bs) rest (a - 128) k, drop_at (b ∷ bs) rest (a - 128) k, ← h.3) refl
