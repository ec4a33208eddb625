-- Whole numbers as they are written: RFC 4517 3.3.16, and those of 63 bits.
use Rattle.std.specs.Prelude.{ℕ, ◌+◌, ◌-◌, ◌*◌, ℤ, pos, neg_ℤ, List, [], ◌∷◌, Bool, false, cond, ◌&&◌, nat_eq, nat_lt, nat_le, map, Option, None, Some}
use Rattle.std.specs.Option.{option_and_then}
use Rattle.std.specs.List.{list_all}
use Rattle.std.specs.Int.Digits.{number_from_digits}

-- a decimal digit
abbrev pub is_digit : ℕ → Bool
is_digit c = nat_le 48 c && nat_le c 57

-- decimal digits alone
abbrev pub are_digits : List ℕ → Bool
are_digits cs = list_all is_digit cs

-- digits of which the first is not 0
abbrev pub is_whole : List ℕ → Bool
is_whole [] = false
is_whole (c ∷ cs) = nat_lt 48 c && nat_le c 57 && are_digits cs

-- `0`, or digits of which the first is not 0 (RFC 4512 1.4, number)
abbrev pub is_number : List ℕ → Bool
is_number [] = false
is_number (c ∷ []) = is_digit c
is_number (c ∷ d ∷ cs) = is_whole (c ∷ d ∷ cs)

-- a number, or `-` and a number other than 0 (RFC 4517 3.3.16)
abbrev pub is_integer : List ℕ → Bool
is_integer [] = false
is_integer (c ∷ cs) = cond (nat_eq c 45) (is_whole cs) (is_number (c ∷ cs))

-- what digits write
abbrev pub decimal : List ℕ → ℕ
decimal ds = number_from_digits 10 (map (λ c. c - 48) ds)

-- the number of an integer's octets
abbrev pub number_of : List ℕ → ℤ
number_of [] = pos 0
number_of (c ∷ cs) = cond (nat_eq c 45) (neg_ℤ (pos (decimal cs))) (pos (decimal (c ∷ cs)))

-- the greatest number of 63 bits: 2 ^ 63 - 1
abbrev pub greatest : ℕ
greatest = 9223372036854775807

-- a number with one more digit, if that is one and the number isn't above the greatest
abbrev pub with_digit : ℕ → ℕ → Option ℕ
with_digit n b = cond (is_digit b && nat_le (10 * n + (b - 48)) greatest) (Some (10 * n + (b - 48))) None

-- the number that these digits write after those of n, if there is one
abbrev pub number_after : Option ℕ → List ℕ → Option ℕ
number_after n [] = n
number_after n (b ∷ bs) = number_after (option_and_then (λ k. with_digit k b) n) bs

-- the number that a text writes: one decimal digit or more, at most the greatest
abbrev pub number_of_digits : List ℕ → Option ℕ
number_of_digits [] = None
number_of_digits (b ∷ bs) = number_after (Some 0) (b ∷ bs)
