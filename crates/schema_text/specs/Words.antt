-- The words of a description: RFC 4512 1.4.
use Rattle.std.specs.Prelude.{ℕ, ◌+◌, ◌-◌, List, [], ◌∷◌, length, take, drop, position, slice_get, Bool, false, cond, ◌&&◌, ◌||◌, Option, None, Some, nat_eq, nat_lt}
use Rattle.std.specs.List.{list_all}
pub use Rattle.ldap_words.specs.Identifiers.{is_numericoid}
pub use Rattle.ldap_words.specs.Numbers.{is_digit, is_number}
pub use Rattle.ldap_words.specs.Words.{is_same_word, is_alpha, is_key_octet, is_descr, is_oid}

-- whether there is an octet, and it is this one
abbrev pub is_octet : ℕ → Option ℕ → Bool
is_octet c None = false
is_octet c (Some x) = nat_eq x c

-- whether the last octet is this one
abbrev pub ends_with : ℕ → List ℕ → Bool
ends_with c word = is_octet c (slice_get word (length word - 1))

-- len in its braces, behind the first of them (RFC 4512 1.4, noidlen)
abbrev pub is_length : List ℕ → Bool
is_length word = ends_with 125 word && is_number (take (length word - 1) word)

-- the numericoid before the first brace: a len in braces stands behind it, or there is no brace
abbrev pub bounded_at : List ℕ → Option ℕ → Option (List ℕ)
bounded_at word None = cond (is_numericoid word) (Some word) None
bounded_at word (Some i) = cond (is_numericoid (take i word) && is_length (drop (i + 1) word)) (Some (take i word)) None

-- the numericoid of a noidlen: a numericoid, and a number in braces or nothing (RFC 4512 1.4)
abbrev pub bounded_oid : List ℕ → Option (List ℕ)
bounded_oid word = bounded_at word (position (nat_eq 123) word)

-- a letter, a hyphen or an underscore (RFC 4512 4.1, xstring)
abbrev pub is_extension_octet : ℕ → Bool
is_extension_octet c = is_alpha c || nat_eq c 45 || nat_eq c 95

-- what follows the `X` of an xstring: a hyphen, and one of those octets or more (RFC 4512 4.1)
abbrev pub is_extension_rest : List ℕ → Bool
is_extension_rest [] = false
is_extension_rest (c ∷ cs) = nat_eq c 45 && nat_lt 0 (length cs) && list_all is_extension_octet cs

-- xstring: `X-`, then ALPHAs, HYPHENs and underscores, one at least (RFC 4512 4.1)
abbrev pub is_extension : List ℕ → Bool
is_extension [] = false
is_extension (c ∷ cs) = (nat_eq c 88 || nat_eq c 120) && is_extension_rest cs
