-- Values and the octets that spell them (RFC 4515 3, valueencoding).
use Rattle.std.specs.Prelude.{ℕ, zero, suc, ◌+◌, ◌-◌, ◌/◌, ◌%◌, List, [], ◌∷◌, ◌++◌, length, take, Bool, true, cond, ◌&&◌, ◌||◌, Some, nat_le, nat_lt, ◌≡◌}
use Rattle.std.specs.List.{list_all}
use Rattle.std.specs.Str.{is_utf8}
pub use Rattle.ldap_words.specs.Octets.{are_octets}
pub use Rattle.ldap_words.specs.Hexadecimal.{hex_digit, with_high, hex_octet}

-- normal: each octet but NUL, `(`, `)`, `*` and backslash (RFC 4515 3)
abbrev pub is_normal : ℕ → Bool
is_normal c = (nat_le 1 c && nat_le c 39) || (nat_le 43 c && nat_le c 91) || (nat_le 93 c && nat_le c 255)

-- A text spells a value: a normal octet stands for itself, and a backslash and two hexadecimal digits for the octet of
-- that number (RFC 4515 3, valueencoding).
pub data IsValue : List ℕ → List ℕ → Type 0 where
  nothing : IsValue [] []
  normal : {v text : List ℕ} (c : ℕ) → is_normal c ≡ true → IsValue v text → IsValue (c ∷ v) (c ∷ text)
  escaped : {v text : List ℕ} (h l c : ℕ) → hex_octet h l ≡ Some c → IsValue v text →
      IsValue (c ∷ v) (92 ∷ h ∷ l ∷ text)

-- ---- what is printed

-- the digit of a number below 16, in lower case
abbrev pub digit : ℕ → ℕ
digit n = cond (nat_lt n 10) (48 + n) (87 + n)

-- an octet behind a backslash
abbrev pub escape : ℕ → List ℕ
escape c = 92 ∷ digit (c / 16) ∷ digit (c % 16) ∷ []

-- an octet as it stands, where it may
abbrev pub put_octet : ℕ → List ℕ
put_octet c = cond (is_normal c) (c ∷ []) (escape c)

-- an octet that is no part of a character of several octets
abbrev pub put_alone : ℕ → List ℕ
put_alone c = cond (nat_lt c 128 && is_normal c) (c ∷ []) (escape c)

-- an octet that is not ASCII
abbrev pub is_high : ℕ → Bool
is_high c = nat_le 128 c && nat_le c 255

-- the first octets, so many, are UTF-8, and none is ASCII
abbrev pub is_character : ℕ → List ℕ → Bool
is_character n v = nat_le n (length v) && list_all is_high (take n v) && is_utf8 (take n v)

-- of how many octets, where more than one, the character at the front is (RFC 3629 3); 0 where none is there
abbrev pub character_len : List ℕ → ℕ
character_len v = cond (is_character 2 v) 2 (cond (is_character 3 v) 3 (cond (is_character 4 v) 4 0))

-- the octet at the front: by itself, where no character of several octets begins there
abbrev pub put_first : ℕ → ℕ → List ℕ
put_first zero c = put_alone c
put_first (suc n) c = put_octet c

-- so many octets of a character, and then the octets that follow
abbrev pub printed_from : ℕ → List ℕ → List ℕ
printed_from n [] = []
printed_from (suc n) (c ∷ cs) = put_octet c ++ printed_from n cs
printed_from zero (c ∷ cs) = put_first (character_len (c ∷ cs)) c ++ printed_from (character_len (c ∷ cs) - 1) cs

-- The printed form of a value: characters as they stand, and octets that may not stand, or are no character, behind a
-- backslash.
abbrev pub printed_value : List ℕ → List ℕ
printed_value v = printed_from 0 v
