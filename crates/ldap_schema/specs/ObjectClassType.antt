-- The type objectClass: RFC 4512 3.3.
use Rattle.std.specs.Prelude.{ℕ, codes, Option, Some, ◌≡◌, slice_get}
use Rattle.ldap_words.specs.declared.rule.Rule.{Rule}
use Rattle.ldap_words.specs.declared.rule.Family.TheVariants as family
use Rattle.ldap_words.specs.declared.rule.Syntax.TheVariants as syntax
use Rattle.ldap_schema.specs.Schema.{TypeModel, SchemaModel, find}

-- the type objectClass
abbrev pub object_class_type : SchemaModel → Option ℕ
object_class_type s = find s (codes "objectClass")

-- objectIdentifierMatch (RFC 4517 4.2.26)
abbrev pub identifier_rule : Rule
identifier_rule = record { family = family.Identifier; syntax = syntax.ObjectIdentifier }

-- The schema has the type objectClass, whose values are matched as object identifiers (RFC 4512 3.3).
pub record IsObjectClassType (s : SchemaModel) (t : ℕ) : Type 0 where
  pub called : object_class_type s ≡ Some t
  pub description : TypeModel
  pub is : slice_get s.types t ≡ Some description
  pub rule : description.equality ≡ Some identifier_rule
