-- What a modify touches: the values of one change; types, by name.
use Rattle.std.specs.Prelude.{◌≡◌, ℕ, List, [], ◌∷◌, Bool, true, false, ◌||◌, nat_eq, filter, Option, None, Some}
use Rattle.std.specs.List.{list_any}
use Rattle.entry_changes.specs.ldap_schema.Schema.{SchemaModel, find}
use Rattle.entry_changes.specs.dir_entry.Entry.{AttributeModel, KeyedAttribute}
use Rattle.entry_changes.specs.dir_entry.ldap_match.Keyed.{AreKeysOf}
use Rattle.ldap_op.specs.ldap_parts.UpdateValues.{ChangeValue}
use Rattle.entry_updates.specs.Classes.{is_object_class, with_some}
use Rattle.entry_updates.specs.Touched.{is_by_values}

-- an attribute of a change's values, with their keys
pub record AreValuesOf (s : SchemaModel) (c : ChangeValue) (t : ℕ) (a : KeyedAttribute) : Type 0 where
  pub asked : is_by_values s c t ≡ true
  pub kind : a.kind ≡ t
  pub values : a.values ≡ c.modification.values
  pub keyed : AreKeysOf s a.kind a.values a.keys

-- a change's values as an attribute, if it touches these alone
abbrev pub IsNamed : SchemaModel → ChangeValue → ℕ → Option KeyedAttribute → Type 0
IsNamed s c t None = is_by_values s c t ≡ false
IsNamed s c t (Some a) = AreValuesOf s c t a

-- the attributes of a type
abbrev pub of_type : ℕ → List AttributeModel → List AttributeModel
of_type t e = filter (λ a. nat_eq a.kind t) e

-- the types that changes name, of those that are recognised
abbrev pub types_named : SchemaModel → List ChangeValue → List ℕ
types_named s [] = []
types_named s (c ∷ cs) = with_some (find s c.modification.description) (types_named s cs)

-- whether a modify may touch attributes of a type: a change names it, or it is objectClass, which gets the superclasses
-- that are missing
abbrev pub is_touched : SchemaModel → List ChangeValue → ℕ → Bool
is_touched s cs t = is_object_class s t || list_any (nat_eq t) (types_named s cs)
