-- The matching rules and syntaxes by name and object identifier: RFC 4517 3.3 and 4.2.
use Rattle.std.specs.Prelude.{ℕ, List, map, Bool, cond, ◌||◌, Option, None, Some, codes}
use Rattle.std.specs.Char.{to_ascii_lowercase}
use Rattle.std.specs.Str.{bytes_eq}
use Rattle.ldap_words.specs.declared.rule.Family.{Family}
use Rattle.ldap_words.specs.declared.rule.Family.TheVariants as family
use Rattle.ldap_words.specs.declared.rule.Syntax.{Syntax}
use Rattle.ldap_words.specs.declared.rule.Syntax.TheVariants as syntax

-- a rule's name in any case, or its object identifier
abbrev pub is_rule : List ℕ → List ℕ → List ℕ → Bool
is_rule name oid w = bytes_eq (map to_ascii_lowercase name) (map to_ascii_lowercase w) || bytes_eq oid w

-- the equality rules that `equality_family` doesn't name itself (RFC 4517 4.2)
abbrev pub other_equality : List ℕ → Option Family
other_equality w =
    cond (is_rule (codes "integerMatch") (codes "2.5.13.14") w) (Some family.Integer)
    (cond (is_rule (codes "octetStringMatch") (codes "2.5.13.17") w) (Some family.Octet)
    (cond (is_rule (codes "telephoneNumberMatch") (codes "2.5.13.20") w) (Some family.Telephone)
    (cond (is_rule (codes "generalizedTimeMatch") (codes "2.5.13.27") w) (Some family.Time)
    (cond (is_rule (codes "caseIgnoreIA5Match") (codes "1.3.6.1.4.1.1466.109.114.2") w) (Some family.Ia5)
    (cond (is_rule (codes "caseExactIA5Match") (codes "1.3.6.1.4.1.1466.109.114.1") w) (Some family.Ia5Exact) None)))))

-- the family of an equality rule (RFC 4517 4.2)
abbrev pub equality_family : List ℕ → Option Family
equality_family w =
    cond (is_rule (codes "objectIdentifierMatch") (codes "2.5.13.0") w) (Some family.Identifier)
    (cond (is_rule (codes "distinguishedNameMatch") (codes "2.5.13.1") w) (Some family.Name)
    (cond (is_rule (codes "caseIgnoreMatch") (codes "2.5.13.2") w) (Some family.Ignore)
    (cond (is_rule (codes "caseExactMatch") (codes "2.5.13.5") w) (Some family.Exact)
    (cond (is_rule (codes "numericStringMatch") (codes "2.5.13.8") w) (Some family.Numeric)
    (cond (is_rule (codes "booleanMatch") (codes "2.5.13.13") w) (Some family.Boolean) (other_equality w))))))

-- the family of an ordering rule (RFC 4517 4.2)
abbrev pub ordering_family : List ℕ → Option Family
ordering_family w =
    cond (is_rule (codes "caseIgnoreOrderingMatch") (codes "2.5.13.3") w) (Some family.Ignore)
    (cond (is_rule (codes "caseExactOrderingMatch") (codes "2.5.13.6") w) (Some family.Exact)
    (cond (is_rule (codes "numericStringOrderingMatch") (codes "2.5.13.9") w) (Some family.Numeric)
    (cond (is_rule (codes "integerOrderingMatch") (codes "2.5.13.15") w) (Some family.Integer)
    (cond (is_rule (codes "generalizedTimeOrderingMatch") (codes "2.5.13.28") w) (Some family.Time) None))))

-- the family of a substrings rule (RFC 4517 4.2)
abbrev pub substrings_family : List ℕ → Option Family
substrings_family w =
    cond (is_rule (codes "caseIgnoreSubstringsMatch") (codes "2.5.13.4") w) (Some family.Ignore)
    (cond (is_rule (codes "caseExactSubstringsMatch") (codes "2.5.13.7") w) (Some family.Exact)
    (cond (is_rule (codes "numericStringSubstringsMatch") (codes "2.5.13.10") w) (Some family.Numeric)
    (cond (is_rule (codes "telephoneNumberSubstringsMatch") (codes "2.5.13.21") w) (Some family.Telephone)
    (cond (is_rule (codes "caseIgnoreIA5SubstringsMatch") (codes "1.3.6.1.4.1.1466.109.114.3") w) (Some family.Ia5)
    None))))

-- the syntaxes that `syntax_of` doesn't name itself (RFC 4517 3.3)
abbrev pub other_syntax : List ℕ → Option Syntax
other_syntax w =
    cond (bytes_eq (codes "1.3.6.1.4.1.1466.115.121.1.27") w) (Some syntax.Integer)
    (cond (bytes_eq (codes "1.3.6.1.4.1.1466.115.121.1.36") w) (Some syntax.NumericString)
    (cond (bytes_eq (codes "1.3.6.1.4.1.1466.115.121.1.38") w) (Some syntax.ObjectIdentifier)
    (cond (bytes_eq (codes "1.3.6.1.4.1.1466.115.121.1.40") w) (Some syntax.OctetString)
    (cond (bytes_eq (codes "1.3.6.1.4.1.1466.115.121.1.50") w) (Some syntax.TelephoneNumber) None))))

-- the syntax of an object identifier (RFC 4517 3.3)
abbrev pub syntax_of : List ℕ → Option Syntax
syntax_of w =
    cond (bytes_eq (codes "1.3.6.1.4.1.1466.115.121.1.7") w) (Some syntax.Boolean)
    (cond (bytes_eq (codes "1.3.6.1.4.1.1466.115.121.1.12") w) (Some syntax.DistinguishedName)
    (cond (bytes_eq (codes "1.3.6.1.4.1.1466.115.121.1.15") w) (Some syntax.DirectoryString)
    (cond (bytes_eq (codes "1.3.6.1.4.1.1466.115.121.1.24") w) (Some syntax.GeneralizedTime)
    (cond (bytes_eq (codes "1.3.6.1.4.1.1466.115.121.1.26") w) (Some syntax.Ia5String) (other_syntax w)))))

-- a number of its own for each family
abbrev pub family_number : Family → ℕ
family_number family.Identifier = 0
family_number family.Name = 1
family_number family.Ignore = 2
family_number family.Exact = 3
family_number family.Numeric = 4
family_number family.Boolean = 5
family_number family.Integer = 6
family_number family.Octet = 7
family_number family.Telephone = 8
family_number family.Time = 9
family_number family.Ia5 = 10
family_number family.Ia5Exact = 11
