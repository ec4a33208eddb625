-- The octets of a name's text, each plain or escaped: RFC 4514 3.
use Rattle.std.specs.Prelude.{ℕ, ◌-◌, List, length, take, drop, Bool, true, false, ◌||◌, nat_eq}
use Rattle.std.specs.List.{prefix_len, suffix_len}
use Rattle.ldap_dn.specs.declared.token.Token.{Token}
use Rattle.ldap_dn.specs.declared.token.Token.TheVariants.{Plain, Escaped}
pub use Rattle.ldap_schema.specs.ldap_words.Hexadecimal.{hex_digit, with_high, hex_octet}

-- the octets that a backslash may stand before: `"`, `+`, `,`, `;`, `<`, `>`, backslash and NUL, and SPACE, `#` and `=`
abbrev pub is_escapable : ℕ → Bool
is_escapable c =
    nat_eq c 34 || nat_eq c 43 || nat_eq c 44 || nat_eq c 59 || nat_eq c 60 || nat_eq c 62 || nat_eq c 92 || nat_eq c 0
    || nat_eq c 32 || nat_eq c 35 || nat_eq c 61

-- the octet of a token
abbrev pub octet_of : Token → ℕ
octet_of (Plain c) = c
octet_of (Escaped c) = c

-- whether a token is this octet, unescaped
abbrev pub is_plain : ℕ → Token → Bool
is_plain c (Plain d) = nat_eq d c
is_plain c (Escaped d) = false

-- whether a token is unescaped
abbrev pub is_unescaped : Token → Bool
is_unescaped (Plain d) = true
is_unescaped (Escaped d) = false

-- an unescaped SPACE
abbrev pub is_space : Token → Bool
is_space t = is_plain 32 t

-- without the unescaped SPACEs at the front
abbrev pub without_leading : List Token → List Token
without_leading ts = drop (prefix_len is_space ts) ts

-- without the unescaped SPACEs at the end
abbrev pub without_trailing : List Token → List Token
without_trailing ts = take (length ts - suffix_len is_space ts) ts

-- without the unescaped SPACEs at both ends
abbrev pub trimmed : List Token → List Token
trimmed ts = without_trailing (without_leading ts)
