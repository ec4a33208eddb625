-- Numbers as they are written: which octets they are made of.
use Rattle.std.proofs.Common.{ℕ, ◌<◌, List, [], ◌∷◌, Bool, true, false, ◌&&◌, nat_lt, nat_le, ◌≡◌, refl, length, arith}
use Rattle.std.proofs.lemmas.Bool.{ltb-true}
use Rattle.std.proofs.lemmas.Bool.Decides.{nat_tests}
use Rattle.ldap_words.specs.Numbers.{is_digit, are_digits, is_whole, is_number}

pub and_left : (a b : Bool) → (a && b) ≡ true → a ≡ true
and_left true b h = refl
and_left false b h = h

pub and_right : (a b : Bool) → (a && b) ≡ true → b ≡ true
and_right true b h = h
and_right false b h = cc

-- what is known of a number's digits
pub record IsWritten (cs : List ℕ) : Type 0 where
  pub digits : are_digits cs ≡ true
  pub some : 0 < length cs
  pub leads : (c d : ℕ) (rest : List ℕ) → cs ≡ c ∷ d ∷ rest → 48 < c

pub whole_is_written : (cs : List ℕ) → is_whole cs ≡ true → IsWritten cs
whole_is_written [] h = cc
whole_is_written (c ∷ cs) h =
    let low : nat_lt 48 c ≡ true = and_left (nat_lt 48 c) (nat_le c 57) (and_left (nat_lt 48 c && nat_le c 57)
    (are_digits cs) h) in
    let high : nat_le c 57 ≡ true = and_right (nat_lt 48 c) (nat_le c 57) (and_left (nat_lt 48 c && nat_le c 57)
    (are_digits cs) h) in
    let below : 48 < c = ltb-true 48 c low in
    record {
      digits = rw (and_right (nat_lt 48 c && nat_le c 57) (are_digits cs) h) (grind (arith, nat_tests, below, high));
      some = omega arith;
      leads = λ x y rest e. let same : c ≡ x = cc in omega (arith, below, same);
    }

pub number_is_written : (cs : List ℕ) → is_number cs ≡ true → IsWritten cs
number_is_written [] h = cc
number_is_written (c ∷ []) h = record { digits = rw h refl; some = omega arith; leads = λ x y rest e. absurd (cc) }
number_is_written (c ∷ d ∷ cs) h = whole_is_written (c ∷ d ∷ cs) h

-- a number is made of digits
pub number_digits : (cs : List ℕ) → is_number cs ≡ true → are_digits cs ≡ true
number_digits [] h = refl
number_digits (c ∷ cs) h = (number_is_written (c ∷ cs) h).digits
