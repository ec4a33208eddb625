-- Entries as the standard sees them, and with the keys that are kept beside the values. RFC 4512 2.2.
use Rattle.std.specs.Prelude.{ℕ, List, [], ◌∷◌, Bool, map}
use Rattle.std.specs.List.{list_all}
use Rattle.ldap_match.specs.ldap_schema.Schema.{SchemaModel}
use Rattle.ldap_match.specs.Item.{is_of_syntax}
use Rattle.ldap_match.specs.Keyed.{AreKeysOf}

-- an attribute: a type, and its values in order (RFC 4512 2.2)
pub record AttributeModel : Type 0 where
  pub kind : ℕ
  pub values : List (List ℕ)

-- an attribute with the key of each value
pub record KeyedAttribute : Type 0 where
  pub kind : ℕ
  pub values : List (List ℕ)
  pub keys : List (List ℕ)

-- an attribute without its keys
abbrev pub shown : KeyedAttribute → AttributeModel
shown a = record { kind = a.kind; values = a.values }

-- an entry without its keys: its attributes in order
abbrev pub attributes_of : List KeyedAttribute → List AttributeModel
attributes_of e = map shown e

-- The keys of an entry are those of its values under a schema.
abbrev pub IsKeyedBy : SchemaModel → List KeyedAttribute → Type 0
IsKeyedBy s [] = Unit {0}
IsKeyedBy s (a ∷ e) = AreKeysOf s a.kind a.values a.keys × IsKeyedBy s e

-- whether each value is in its type's syntax (RFC 4512 2.5.1)
abbrev pub are_in_syntax : SchemaModel → ℕ → List (List ℕ) → Bool
are_in_syntax s t values = list_all (is_of_syntax s t) values
