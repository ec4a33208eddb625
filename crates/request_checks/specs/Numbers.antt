-- Numbers as text: decimal digits without a leading zero.
use Rattle.std.specs.Prelude.{ℕ, List, [], ◌∷◌, Bool, false, cond, nat_eq, Option, None, Some}
use Rattle.std.specs.Option.{option_and_then}
pub use Rattle.dir_entry.specs.ldap_words.Numbers.{greatest, with_digit, number_after, number_of_digits}

-- a zero that other digits follow
abbrev pub is_padded : List ℕ → Bool
is_padded [] = false
is_padded (b ∷ []) = false
is_padded (b ∷ c ∷ bs) = nat_eq b 48

-- the number of a text: one digit or more, no leading zero, at most the greatest
abbrev pub number_of : List ℕ → Option ℕ
number_of text = cond (is_padded text) None (number_of_digits text)

-- no number where it is 0
abbrev pub positive : ℕ → Option ℕ
positive n = cond (nat_eq n 0) None (Some n)

-- the same, from 1
abbrev pub positive_of : List ℕ → Option ℕ
positive_of text = option_and_then positive (number_of text)

-- what stands before the first colon and behind it
abbrev pub before_colon : List ℕ → List ℕ
before_colon [] = []
before_colon (b ∷ bs) = cond (nat_eq b 58) [] (b ∷ before_colon bs)

-- what stands behind the first colon
abbrev pub behind_colon : List ℕ → List ℕ
behind_colon [] = []
behind_colon (b ∷ bs) = cond (nat_eq b 58) bs (behind_colon bs)

-- both, where both are there
abbrev pub both : Option ℕ → Option ℕ → Option (ℕ × ℕ)
both None b = None
both (Some a) None = None
both (Some a) (Some b) = Some (a, b)

-- two numbers from 1, with a colon between them
abbrev pub pair_of : List ℕ → Option (ℕ × ℕ)
pair_of text = both (positive_of (before_colon text)) (positive_of (behind_colon text))
