-- Values of a syntax mean something under the rules that are used on it.
use Rattle.std.proofs.Common.{ℕ, zero, suc, ◌<◌, List, [], ◌∷◌, Bool, true, false, cond, ◌&&◌, ◌||◌, nat_eq, get_or, Option, None, is_some, ◌≡◌, refl, arith}
use Rattle.std.proofs.lemmas.Bool.{ltb-true}
use Rattle.std.proofs.lemmas.Bool.Decides.{nat_tests}
use Rattle.std.proofs.lemmas.Str.{IsUtf8-from_ascii, is_utf8-from_IsUtf8}
use Rattle.std.specs.List.{list_all}
use Rattle.std.specs.Str.{is_utf8}
use Rattle.ldap_words.specs.Numbers.{is_digit}
use Rattle.ldap_syntax.specs.Syntaxes.{is_in_syntax, has_octets, is_ascii, is_all_ascii, are_digits_or_spaces, is_printable, are_printable}
use Rattle.ldap_words.specs.Families.{is_textual, is_used_on}
use Rattle.ldap_syntax.specs.Meaning.{Meaning, as_text, spelled, meaning_in, ValuesOfTheSyntaxMean}
use Rattle.ldap_syntax.specs.declared.preparing.Part.TheVariants.{Whole}
use Rattle.ldap_words.specs.declared.rule.Family.{Family}
use Rattle.ldap_words.specs.declared.rule.Family.TheVariants as family
use Rattle.ldap_words.specs.declared.rule.Syntax.{Syntax}
use Rattle.ldap_words.specs.declared.rule.Syntax.TheVariants as syntax
use Rattle.ldap_syntax.proofs.Digits.{and_left, and_right}

small_octet : (v : List ℕ) → is_all_ascii v ≡ true → (i : ℕ) → get_or v i 0 < 128
small_octet [] h i = omega arith
small_octet (c ∷ cs) h zero = ltb-true c 128 (and_left (is_ascii c) (is_all_ascii cs) h)
small_octet (c ∷ cs) h (suc i) = small_octet cs (and_right (is_ascii c) (is_all_ascii cs) h) i

ascii_text : (v : List ℕ) → is_all_ascii v ≡ true → is_utf8 v ≡ true
ascii_text v h = is_utf8-from_IsUtf8 v (IsUtf8-from_ascii v (small_octet v h))

both : (a b : Bool) → a ≡ true → b ≡ true → (a && b) ≡ true
both true true e f = refl
both true false e f = f
both false b e f = e

all_small : (p : ℕ → Bool) → ((c : ℕ) → p c ≡ true → is_ascii c ≡ true) → (v : List ℕ) → list_all p v ≡ true →
    is_all_ascii v ≡ true
all_small p small [] h = refl
all_small p small (c ∷ cs) h = both (is_ascii c) (is_all_ascii cs) (small c (and_left (p c) (list_all p cs) h))
    (all_small p small cs (and_right (p c) (list_all p cs) h))

digit_or_space : (c : ℕ) → (is_digit c || nat_eq c 32) ≡ true → is_ascii c ≡ true
digit_or_space c h = grind (arith, nat_tests, h)

printable : (c : ℕ) → is_printable c ≡ true → is_ascii c ≡ true
printable c h = grind (arith, nat_tests, h)

utf8_of : (s : Syntax) (v : List ℕ) → is_textual s ≡ true → is_in_syntax s v ≡ true → is_utf8 v ≡ true
utf8_of syntax.Boolean v u h = cc
utf8_of syntax.DistinguishedName v u h = cc
utf8_of syntax.DirectoryString v u h = and_right (has_octets v) (is_utf8 v) h
utf8_of syntax.GeneralizedTime v u h = cc
utf8_of syntax.Ia5String v u h = ascii_text v h
utf8_of syntax.Integer v u h = cc
utf8_of syntax.NumericString v u h = ascii_text v (all_small (λ c. is_digit c || nat_eq c 32) digit_or_space v
    (and_right (has_octets v) (are_digits_or_spaces v) h))
utf8_of syntax.ObjectIdentifier v u h = cc
utf8_of syntax.OctetString v u h = cc
utf8_of syntax.TelephoneNumber v u h = ascii_text v (all_small is_printable printable v
    (and_right (has_octets v) (are_printable v) h))

some_text : (f : Family) (s : Syntax) (v : List ℕ) → is_textual s ≡ true → is_in_syntax s v ≡ true →
    is_some (as_text (spelled f Whole v)) ≡ true
some_text f s v u h = rw (utf8_of s v u h) refl

fits : (f : Family) (s : Syntax) (v : List ℕ) → is_used_on f s ≡ true → is_in_syntax s v ≡ true →
    is_some (meaning_in f v) ≡ true
fits family.Identifier syntax.Boolean v u h = cc
fits family.Identifier syntax.DistinguishedName v u h = cc
fits family.Identifier syntax.DirectoryString v u h = cc
fits family.Identifier syntax.GeneralizedTime v u h = cc
fits family.Identifier syntax.Ia5String v u h = cc
fits family.Identifier syntax.Integer v u h = cc
fits family.Identifier syntax.NumericString v u h = cc
fits family.Identifier syntax.ObjectIdentifier v u h = rw h refl
fits family.Identifier syntax.OctetString v u h = cc
fits family.Identifier syntax.TelephoneNumber v u h = cc
fits family.Name syntax.Boolean v u h = cc
fits family.Name syntax.DistinguishedName v u h = cc
fits family.Name syntax.DirectoryString v u h = cc
fits family.Name syntax.GeneralizedTime v u h = cc
fits family.Name syntax.Ia5String v u h = cc
fits family.Name syntax.Integer v u h = cc
fits family.Name syntax.NumericString v u h = cc
fits family.Name syntax.ObjectIdentifier v u h = cc
fits family.Name syntax.OctetString v u h = cc
fits family.Name syntax.TelephoneNumber v u h = cc
fits family.Ignore syntax.Boolean v u h = cc
fits family.Ignore syntax.DistinguishedName v u h = cc
fits family.Ignore syntax.DirectoryString v u h = some_text family.Ignore syntax.DirectoryString v refl h
fits family.Ignore syntax.GeneralizedTime v u h = cc
fits family.Ignore syntax.Ia5String v u h = some_text family.Ignore syntax.Ia5String v refl h
fits family.Ignore syntax.Integer v u h = cc
fits family.Ignore syntax.NumericString v u h = some_text family.Ignore syntax.NumericString v refl h
fits family.Ignore syntax.ObjectIdentifier v u h = cc
fits family.Ignore syntax.OctetString v u h = cc
fits family.Ignore syntax.TelephoneNumber v u h = some_text family.Ignore syntax.TelephoneNumber v refl h
fits family.Exact syntax.Boolean v u h = cc
fits family.Exact syntax.DistinguishedName v u h = cc
fits family.Exact syntax.DirectoryString v u h = some_text family.Exact syntax.DirectoryString v refl h
fits family.Exact syntax.GeneralizedTime v u h = cc
fits family.Exact syntax.Ia5String v u h = some_text family.Exact syntax.Ia5String v refl h
fits family.Exact syntax.Integer v u h = cc
fits family.Exact syntax.NumericString v u h = some_text family.Exact syntax.NumericString v refl h
fits family.Exact syntax.ObjectIdentifier v u h = cc
fits family.Exact syntax.OctetString v u h = cc
fits family.Exact syntax.TelephoneNumber v u h = some_text family.Exact syntax.TelephoneNumber v refl h
fits family.Numeric syntax.Boolean v u h = cc
fits family.Numeric syntax.DistinguishedName v u h = cc
fits family.Numeric syntax.DirectoryString v u h = cc
fits family.Numeric syntax.GeneralizedTime v u h = cc
fits family.Numeric syntax.Ia5String v u h = cc
fits family.Numeric syntax.Integer v u h = cc
fits family.Numeric syntax.NumericString v u h = some_text family.Numeric syntax.NumericString v refl h
fits family.Numeric syntax.ObjectIdentifier v u h = cc
fits family.Numeric syntax.OctetString v u h = cc
fits family.Numeric syntax.TelephoneNumber v u h = cc
fits family.Boolean syntax.Boolean v u h = rw h refl
fits family.Boolean syntax.DistinguishedName v u h = cc
fits family.Boolean syntax.DirectoryString v u h = cc
fits family.Boolean syntax.GeneralizedTime v u h = cc
fits family.Boolean syntax.Ia5String v u h = cc
fits family.Boolean syntax.Integer v u h = cc
fits family.Boolean syntax.NumericString v u h = cc
fits family.Boolean syntax.ObjectIdentifier v u h = cc
fits family.Boolean syntax.OctetString v u h = cc
fits family.Boolean syntax.TelephoneNumber v u h = cc
fits family.Integer syntax.Boolean v u h = cc
fits family.Integer syntax.DistinguishedName v u h = cc
fits family.Integer syntax.DirectoryString v u h = cc
fits family.Integer syntax.GeneralizedTime v u h = cc
fits family.Integer syntax.Ia5String v u h = cc
fits family.Integer syntax.Integer v u h = rw h refl
fits family.Integer syntax.NumericString v u h = cc
fits family.Integer syntax.ObjectIdentifier v u h = cc
fits family.Integer syntax.OctetString v u h = cc
fits family.Integer syntax.TelephoneNumber v u h = cc
fits family.Octet syntax.Boolean v u h = cc
fits family.Octet syntax.DistinguishedName v u h = cc
fits family.Octet syntax.DirectoryString v u h = cc
fits family.Octet syntax.GeneralizedTime v u h = cc
fits family.Octet syntax.Ia5String v u h = cc
fits family.Octet syntax.Integer v u h = cc
fits family.Octet syntax.NumericString v u h = cc
fits family.Octet syntax.ObjectIdentifier v u h = cc
fits family.Octet syntax.OctetString v u h = refl
fits family.Octet syntax.TelephoneNumber v u h = cc
fits family.Telephone syntax.Boolean v u h = cc
fits family.Telephone syntax.DistinguishedName v u h = cc
fits family.Telephone syntax.DirectoryString v u h = cc
fits family.Telephone syntax.GeneralizedTime v u h = cc
fits family.Telephone syntax.Ia5String v u h = cc
fits family.Telephone syntax.Integer v u h = cc
fits family.Telephone syntax.NumericString v u h = cc
fits family.Telephone syntax.ObjectIdentifier v u h = cc
fits family.Telephone syntax.OctetString v u h = cc
fits family.Telephone syntax.TelephoneNumber v u h = some_text family.Telephone syntax.TelephoneNumber v refl h
fits family.Time syntax.Boolean v u h = cc
fits family.Time syntax.DistinguishedName v u h = cc
fits family.Time syntax.DirectoryString v u h = cc
fits family.Time syntax.GeneralizedTime v u h = rw h refl
fits family.Time syntax.Ia5String v u h = cc
fits family.Time syntax.Integer v u h = cc
fits family.Time syntax.NumericString v u h = cc
fits family.Time syntax.ObjectIdentifier v u h = cc
fits family.Time syntax.OctetString v u h = cc
fits family.Time syntax.TelephoneNumber v u h = cc
fits family.Ia5 syntax.Boolean v u h = cc
fits family.Ia5 syntax.DistinguishedName v u h = cc
fits family.Ia5 syntax.DirectoryString v u h = cc
fits family.Ia5 syntax.GeneralizedTime v u h = cc
fits family.Ia5 syntax.Ia5String v u h = some_text family.Ia5 syntax.Ia5String v refl h
fits family.Ia5 syntax.Integer v u h = cc
fits family.Ia5 syntax.NumericString v u h = cc
fits family.Ia5 syntax.ObjectIdentifier v u h = cc
fits family.Ia5 syntax.OctetString v u h = cc
fits family.Ia5 syntax.TelephoneNumber v u h = cc
fits family.Ia5Exact syntax.Boolean v u h = cc
fits family.Ia5Exact syntax.DistinguishedName v u h = cc
fits family.Ia5Exact syntax.DirectoryString v u h = cc
fits family.Ia5Exact syntax.GeneralizedTime v u h = cc
fits family.Ia5Exact syntax.Ia5String v u h = some_text family.Ia5Exact syntax.Ia5String v refl h
fits family.Ia5Exact syntax.Integer v u h = cc
fits family.Ia5Exact syntax.NumericString v u h = cc
fits family.Ia5Exact syntax.ObjectIdentifier v u h = cc
fits family.Ia5Exact syntax.OctetString v u h = cc
fits family.Ia5Exact syntax.TelephoneNumber v u h = cc

inside : (b : Bool) (o : Option Meaning) → (b ≡ true → is_some o ≡ true) → is_some (cond b o None) ≡ b
inside true o f = f refl
inside false o f = refl

pub values_of_the_syntax_mean : ValuesOfTheSyntaxMean
values_of_the_syntax_mean r v u = inside (is_in_syntax r.syntax v) (meaning_in r.family v) (fits r.family r.syntax v u)
