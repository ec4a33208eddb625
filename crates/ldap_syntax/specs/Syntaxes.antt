-- The values of each syntax: RFC 4517 3.3.
use Rattle.std.specs.Prelude.{ℕ, List, [], ◌∷◌, Bool, true, false, ◌&&◌, ◌||◌, nat_eq, nat_lt, nat_le}
use Rattle.std.specs.List.{list_all}
use Rattle.std.specs.Str.{bytes_eq, is_utf8}
use Rattle.ldap_words.specs.Numbers.{is_digit, is_integer}
use Rattle.ldap_words.specs.Identifiers.{is_numericoid}
use Rattle.ldap_syntax.specs.Times.{is_time}
use Rattle.ldap_words.specs.declared.rule.Syntax.{Syntax}
use Rattle.ldap_words.specs.declared.rule.Syntax.TheVariants as syntax

-- whether a value isn't empty
abbrev pub has_octets : List ℕ → Bool
has_octets [] = false
has_octets (c ∷ cs) = true

-- whether an octet is of IA5, the first 128 characters (RFC 4517 3.3.15)
abbrev pub is_ascii : ℕ → Bool
is_ascii c = nat_lt c 128

-- the octets of an IA5 String (RFC 4517 3.3.15)
abbrev pub is_all_ascii : List ℕ → Bool
is_all_ascii v = list_all is_ascii v

-- the octets of a Numeric String (RFC 4517 3.3.23)
abbrev pub are_digits_or_spaces : List ℕ → Bool
are_digits_or_spaces v = list_all (λ c. is_digit c || nat_eq c 32) v

-- a letter, a digit, a space, or one of `'()+,-./:?=` (RFC 4517 3.2, PrintableCharacter)
abbrev pub is_printable : ℕ → Bool
is_printable c =
    (nat_le 65 c && nat_le c 90) || (nat_le 97 c && nat_le c 122) || is_digit c || nat_eq c 32
    || nat_eq c 39 || nat_eq c 40 || nat_eq c 41 || (nat_le 43 c && nat_le c 47) || nat_eq c 58 || nat_eq c 63 ||
    nat_eq c 61

-- the octets of a Telephone Number (RFC 4517 3.3.31)
abbrev pub are_printable : List ℕ → Bool
are_printable v = list_all is_printable v

-- `TRUE`
abbrev pub true_octets : List ℕ
true_octets = 84 ∷ 82 ∷ 85 ∷ 69 ∷ []

-- `FALSE`
abbrev pub false_octets : List ℕ
false_octets = 70 ∷ 65 ∷ 76 ∷ 83 ∷ 69 ∷ []

-- `TRUE` or `FALSE` (RFC 4517 3.3.3)
abbrev pub is_boolean : List ℕ → Bool
is_boolean v = bytes_eq v true_octets || bytes_eq v false_octets

-- whether the octets are made of the syntax's characters; a syntax whose values are no text has none
abbrev pub has_characters_of : Syntax → List ℕ → Bool
has_characters_of syntax.DirectoryString v = is_utf8 v
has_characters_of syntax.Ia5String v = is_all_ascii v
has_characters_of syntax.NumericString v = are_digits_or_spaces v
has_characters_of syntax.TelephoneNumber v = are_printable v
has_characters_of s v = false

-- The values of a syntax (RFC 4517 3.3.3, 3.3.6, 3.3.13, 3.3.15, 3.3.16, 3.3.23, 3.3.25, 3.3.26, 3.3.31). Names need a
-- schema: here no value is a distinguished name, and an object identifier is a dotted one.
abbrev pub is_in_syntax : Syntax → List ℕ → Bool
is_in_syntax syntax.DirectoryString v = has_octets v && is_utf8 v
is_in_syntax syntax.Ia5String v = is_all_ascii v
is_in_syntax syntax.NumericString v = has_octets v && are_digits_or_spaces v
is_in_syntax syntax.TelephoneNumber v = has_octets v && are_printable v
is_in_syntax syntax.Boolean v = is_boolean v
is_in_syntax syntax.DistinguishedName v = false
is_in_syntax syntax.GeneralizedTime v = is_time v
is_in_syntax syntax.Integer v = is_integer v
is_in_syntax syntax.ObjectIdentifier v = is_numericoid v
is_in_syntax syntax.OctetString v = true

-- A part of a value in a substring assertion is not empty, and made of the syntax's characters (RFC 4517 3.3.30).
abbrev pub is_part_of : Syntax → List ℕ → Bool
is_part_of s v = has_octets v && has_characters_of s v
