-- A value of ASCII of which no character is escaped is printed as it is.
use Rattle.std.proofs.Common.{◌≡◌, ◌-◌, ◌<◌, ℕ, zero, suc, Bool, true, false, ◌&&◌, ◌||◌, not, List, [], ◌∷◌, ◌++◌, length, None, Some, slice_get, nat_eq, nat_lt, refl, sym, ap, ◌∙◌, true≢false, arith}
use Rattle.std.proofs.lemmas.Bool.{and_parts, or_from, cond-false, ltb-true, ne_eqb}
use Rattle.std.proofs.lemmas.Str.{encode_ascii, chars-IsAscii, chars-nil}
use Rattle.std.specs.List.{list_all}
use Rattle.std.specs.Str.{IsAscii}
use Rattle.ldap_dn.specs.private.Plain.{is_plain, are_plain_ends}
use Rattle.ldap_dn.specs.Printed.{is_special, is_escaped, printed_character, printed_from, printed_value}

same_some : {m n : ℕ} → Some m ≡ Some n → m ≡ n
same_some i = cc

is_not : (b : Bool) → not b ≡ true → b ≡ false
is_not true e = sym e
is_not false e = refl

module _ (c : ℕ) (h : is_plain c ≡ true) where
  ascii : (nat_lt 0 c && nat_lt c 128) ≡ true
  ascii = (and_parts (nat_lt 0 c && nat_lt c 128) (not (is_special c)) h).0

  some : nat_eq c 0 ≡ false
  some = let low = ltb-true 0 c (and_parts (nat_lt 0 c) (nat_lt c 128) ascii).0 in ne_eqb c 0
      (λ e. omega (arith, e, low))

  below : c < 128
  below = ltb-true c 128 (and_parts (nat_lt 0 c) (nat_lt c 128) ascii).1

  unspecial : is_special c ≡ false
  unspecial = is_not (is_special c) (and_parts (nat_lt 0 c && nat_lt c 128) (not (is_special c)) h).1

  -- it is printed as it is where it isn't escaped
  alone : (b : Bool) → b ≡ false → printed_character b c ≡ c ∷ []
  alone b e = cond-false (nat_eq c 0) _ _ some ∙ cond-false b _ _ e ∙ encode_ascii c below

  at_end : (first x : Bool) → (first ≡ true → x ≡ false) → (first && x) ≡ false
  at_end true x k = k refl
  at_end false x k = refl

  -- it isn't escaped but as the first or the last
  free : (first last : Bool) → (first ≡ true → (nat_eq c 32 || nat_eq c 35) ≡ false) →
      (last ≡ true → nat_eq c 32 ≡ false) → is_escaped first last c ≡ false
  free first last k l =
      or_from (is_special c || (first && (nat_eq c 32 || nat_eq c 35))) (last && nat_eq c 32)
      (or_from (is_special c) (first && (nat_eq c 32 || nat_eq c 35)) unspecial
      (at_end first (nat_eq c 32 || nat_eq c 35) k)) (at_end last (nat_eq c 32) l)

from : (first : Bool) (c : ℕ) (cs : List ℕ) (z : ℕ) → list_all is_plain (c ∷ cs) ≡ true →
    (first ≡ true → (nat_eq c 32 || nat_eq c 35) ≡ false)
    → slice_get (c ∷ cs) (length cs) ≡ Some z → nat_eq z 32 ≡ false → printed_from first (c ∷ cs) ≡ c ∷ cs
from first c [] z h k l s =
    let p = and_parts (is_plain c) (list_all is_plain []) h in
    ap (λ (x : List ℕ). x ++ []) (alone c p.0 (is_escaped first true c)
    (free c p.0 first true k (λ t. ap (λ (n : ℕ). nat_eq n 32) (same_some l) ∙ s)))
from first c (d ∷ ds) z h k l s =
    let p = and_parts (is_plain c) (list_all is_plain (d ∷ ds)) h in
    let more : nat_eq (suc (length ds)) 0 ≡ false = ne_eqb (suc (length ds)) 0 (λ e. omega (arith, e)) in
    ap (λ (b : Bool). printed_character (is_escaped first b c) c ++ printed_from false (d ∷ ds)) more
    ∙ ap (λ (x : List ℕ). x ++ printed_from false (d ∷ ds)) (alone c p.0 (is_escaped first false c)
    (free c p.0 first false k (λ t. absurd (true≢false (sym t)))))
    ∙ ap (λ (x : List ℕ). c ∷ x) (from false d ds z p.1 (λ t. absurd (true≢false (sym t))) l s)

is_ascii : (bs : List ℕ) → list_all is_plain bs ≡ true → IsAscii bs
is_ascii [] h i = omega arith
is_ascii (b ∷ bs) h zero = below b (and_parts (is_plain b) (list_all is_plain bs) h).0
is_ascii (b ∷ bs) h (suc i) = is_ascii bs (and_parts (is_plain b) (list_all is_plain bs) h).1 i

-- such a value is printed as it is
pub printed_plain : (v : List ℕ) (a z : ℕ) → slice_get v 0 ≡ Some a → slice_get v (length v - 1) ≡ Some z →
    are_plain_ends a z ≡ true → list_all is_plain v ≡ true → printed_value v ≡ v
printed_plain [] a z f l p h = absurd (none f)
  where
    none : None ≡ Some a → ⊥
    none e = cc
printed_plain (c ∷ cs) a z f l p h =
    let one = and_parts (not (nat_eq a 32) && not (nat_eq a 35)) (not (nat_eq z 32)) p in
    let two = and_parts (not (nat_eq a 32)) (not (nat_eq a 35)) one.0 in
    let behind : length cs ≡ suc (length cs) - 1 = omega arith in
    ap (printed_from true) (chars-IsAscii (c ∷ cs) (is_ascii (c ∷ cs) h))
    ∙ from true c cs z h
    (λ t. or_from (nat_eq c 32) (nat_eq c 35) (ap (λ (n : ℕ). nat_eq n 32) (same_some f) ∙ is_not (nat_eq a 32) two.0)
    (ap (λ (n : ℕ). nat_eq n 35) (same_some f) ∙ is_not (nat_eq a 35) two.1))
    (ap (λ (n : ℕ). slice_get (c ∷ cs) n) behind ∙ l) (is_not (nat_eq z 32) one.1)

pub printed_nothing : (v : List ℕ) → slice_get v 0 ≡ None → printed_value v ≡ v
printed_nothing [] e = ap (printed_from true) chars-nil
printed_nothing (c ∷ cs) e = absurd (none e)
  where
    none : Some c ≡ None → ⊥
    none e = cc
