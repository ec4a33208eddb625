-- Types whose rules are of one family: RFC 4512 4.1.2, RFC 4517 4.2.
use Rattle.std.specs.Prelude.{ℕ, List, Option, None, Some, Ok, ◌≡◌}
use Rattle.std.specs.List.{AllByRecursion}
use Rattle.ldap_match.specs.ldap_words.Families.{is_ordering, has_substrings}
use Rattle.ldap_match.specs.ldap_words.declared.rule.Rule.{Rule}
use Rattle.ldap_match.specs.ldap_schema.Schema.{SchemaModel, TypeModel}
use Rattle.ldap_match.specs.Item.{of_family, beside}
use Rattle.schema_reader.specs.Reading.{schema_of_text}

-- The ORDERING and the SUBSTR rule in effect for a type are those that it has: they are of its EQUALITY rule's family.
pub record HasRulesOfOneFamily (t : TypeModel) : Type 0 where
  pub ordering : beside t.ordering (of_family is_ordering t.equality) ≡ t.ordering
  pub substrings : beside t.substrings (of_family has_substrings t.equality) ≡ t.substrings

-- each type has rules of one family
abbrev pub HaveRulesOfOneFamily : List TypeModel → Type 0
HaveRulesOfOneFamily ts = AllByRecursion HasRulesOfOneFamily ts

-- no rule, or a rule of this one's family and syntax
abbrev pub IsNoneOr : Rule → Option Rule → Type 0
IsNoneOr r None = Unit {0}
IsNoneOr r (Some o) = o ≡ r

-- The rules of a type, own or inherited (RFC 4512 2.5.1): it has an EQUALITY rule, and an ORDERING and a SUBSTR rule,
-- if any, of the same family on the same syntax; they are the ones in effect.
pub record IsOfOneFamily (t : TypeModel) : Type 0 where
  pub rule : Rule
  pub equality : t.equality ≡ Some rule
  pub ordering : IsNoneOr rule t.ordering
  pub substrings : IsNoneOr rule t.substrings
  pub in_effect : HasRulesOfOneFamily t

-- Of each schema that is read from a text, each type's rules are of one family.
abbrev pub ReadTypesAreOfOneFamily : Type 0
ReadTypesAreOfOneFamily = (text : List ℕ) (s : SchemaModel) → schema_of_text text ≡ Ok s →
    AllByRecursion IsOfOneFamily s.types
