-- Which rules each family has, and on which syntaxes: RFC 4517 4.2.
use Rattle.std.specs.Prelude.{Bool, true, false}
use Rattle.ldap_words.specs.declared.rule.Family.{Family}
use Rattle.ldap_words.specs.declared.rule.Family.TheVariants as family
use Rattle.ldap_words.specs.declared.rule.Syntax.{Syntax}
use Rattle.ldap_words.specs.declared.rule.Syntax.TheVariants as syntax

-- the families that have an ordering rule
abbrev pub is_ordering : Family → Bool
is_ordering family.Ignore = true
is_ordering family.Exact = true
is_ordering family.Numeric = true
is_ordering family.Integer = true
is_ordering family.Time = true
is_ordering f = false

-- the families that have a substrings rule
abbrev pub has_substrings : Family → Bool
has_substrings family.Ignore = true
has_substrings family.Exact = true
has_substrings family.Numeric = true
has_substrings family.Telephone = true
has_substrings family.Ia5 = true
has_substrings f = false

-- the syntaxes of text
abbrev pub is_textual : Syntax → Bool
is_textual syntax.DirectoryString = true
is_textual syntax.Ia5String = true
is_textual syntax.NumericString = true
is_textual syntax.TelephoneNumber = true
is_textual s = false

-- the syntaxes that a family's rules are used on: ignore and exact on each syntax of text, the others on one
abbrev pub is_used_on : Family → Syntax → Bool
is_used_on family.Ignore s = is_textual s
is_used_on family.Exact s = is_textual s
is_used_on family.Identifier syntax.ObjectIdentifier = true
is_used_on family.Name syntax.DistinguishedName = true
is_used_on family.Numeric syntax.NumericString = true
is_used_on family.Boolean syntax.Boolean = true
is_used_on family.Integer syntax.Integer = true
is_used_on family.Octet syntax.OctetString = true
is_used_on family.Telephone syntax.TelephoneNumber = true
is_used_on family.Time syntax.GeneralizedTime = true
is_used_on family.Ia5 syntax.Ia5String = true
is_used_on family.Ia5Exact syntax.Ia5String = true
is_used_on f s = false
