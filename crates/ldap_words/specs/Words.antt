-- Words, and the descriptions of attributes that they make: RFC 4512 1.4 and 2.5.
use Rattle.std.specs.Prelude.{ℕ, ◌+◌, List, [], ◌∷◌, map, take, drop, position, Bool, false, ◌&&◌, ◌||◌, Option, None, Some, nat_eq, nat_le}
use Rattle.std.specs.List.{list_all, slice_split}
use Rattle.std.specs.Char.{to_ascii_lowercase}
use Rattle.std.specs.Str.{bytes_eq}
use Rattle.ldap_words.specs.Identifiers.{is_numericoid}
use Rattle.ldap_words.specs.Numbers.{is_digit}

-- the same without regard to the case of ASCII letters (RFC 4512 1.4, descr; RFC 4234 2.3, keywords)
abbrev pub is_same_word : List ℕ → List ℕ → Bool
is_same_word a b = bytes_eq (map to_ascii_lowercase a) (map to_ascii_lowercase b)

-- ALPHA (RFC 4512 1.4)
abbrev pub is_alpha : ℕ → Bool
is_alpha c = (nat_le 65 c && nat_le c 90) || (nat_le 97 c && nat_le c 122)

-- keychar: ALPHA, DIGIT or HYPHEN (RFC 4512 1.4)
abbrev pub is_key_octet : ℕ → Bool
is_key_octet c = is_alpha c || is_digit c || nat_eq c 45

-- descr: an ALPHA, then keychars (RFC 4512 1.4)
abbrev pub is_descr : List ℕ → Bool
is_descr [] = false
is_descr (c ∷ cs) = is_alpha c && list_all is_key_octet cs

-- option: keychars, one at least (RFC 4512 2.5)
abbrev pub is_option : List ℕ → Bool
is_option [] = false
is_option (c ∷ cs) = is_key_octet c && list_all is_key_octet cs

-- oid: a descr or a numericoid (RFC 4512 1.4)
abbrev pub is_oid : List ℕ → Bool
is_oid v = is_descr v || is_numericoid v

-- an oid alone, or before the first `;`, behind which options stand with `;` between them
abbrev pub is_described : List ℕ → Option ℕ → Bool
is_described d None = is_oid d
is_described d (Some i) = is_oid (take i d) && list_all is_option (slice_split (λ c. nat_eq c 59) (drop (i + 1) d))

-- attributedescription: an oid, and each option behind a `;` (RFC 4512 2.5)
abbrev pub is_description : List ℕ → Bool
is_description d = is_described d (position (λ c. nat_eq c 59) d)

-- the part's octets; none, where it is left out
abbrev pub part_or_nothing : Option (List ℕ) → List ℕ
part_or_nothing None = []
part_or_nothing (Some p) = p
