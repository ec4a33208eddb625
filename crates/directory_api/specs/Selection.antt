-- Which attributes of an entry are shown: RFC 4511 4.5.1.8.
use Rattle.std.specs.Prelude.{ℕ, List, [], ◌∷◌, Bool, true, false, not, ◌&&◌, ◌||◌, if◌then◌else◌, map, filter, codes, Option, Some, None}
use Rattle.std.specs.List.{list_any}
use Rattle.std.specs.Str.{bytes_eq}
use Rattle.dir_tree.specs.ldap_schema.Schema.{SchemaModel, find, is_under, type_at}
use Rattle.dir_tree.specs.dir_entry.Entry.{AttributeModel}
use Rattle.ldap_msg.specs.ldap_parts.Values.{PartialAttributeValue}
pub use Rattle.dir_tree.specs.ldap_dn.Printed.{name_of_type}

-- a recognised description selects its type and the subtypes (RFC 4512 2.5.1); another one selects nothing
abbrev pub is_named_by : SchemaModel → ℕ → Option ℕ → Bool
is_named_by s t None = false
is_named_by s t (Some u) = is_under s t u

-- `*` selects every user attribute; `1.1` selects none, whatever the schema has under that identifier (RFC 4511
-- 4.5.1.8)
abbrev pub is_selected_by : SchemaModel → ℕ → List ℕ → Bool
is_selected_by s t selector = bytes_eq selector (codes "*") || (not (bytes_eq selector (codes "1.1"))
    && is_named_by s t (find s selector))

-- No selector at all selects every user attribute.
abbrev pub is_selected : SchemaModel → List (List ℕ) → ℕ → Bool
is_selected s [] t = true
is_selected s (selector ∷ selectors) t = list_any (is_selected_by s t) (selector ∷ selectors)

-- the name that a type is shown by: its first, or its OID where it has none
abbrev pub first_name : SchemaModel → ℕ → List ℕ
first_name s t = name_of_type (type_at s t)

-- typesOnly leaves the values out (RFC 4511 4.5.1.6)
abbrev pub shown : SchemaModel → Bool → AttributeModel → PartialAttributeValue
shown s types_only a = record { description = first_name s a.kind; values = if types_only then [] else a.values }

-- the selected attributes, in their order
abbrev pub attributes_selected : SchemaModel → List (List ℕ) → Bool → List AttributeModel → List PartialAttributeValue
attributes_selected s selectors types_only attributes = map (shown s types_only)
    (filter (λ a. is_selected s selectors a.kind) attributes)

-- what a search shows of each entry: by a schema, the attributes that selectors select, or their types alone
pub record ShowsModel : Type 0 where
  pub schema : SchemaModel
  pub selectors : List (List ℕ)
  pub types_only : Bool

-- what it shows of attributes
abbrev pub shown_of : ShowsModel → List AttributeModel → List PartialAttributeValue
shown_of s attributes = attributes_selected s.schema s.selectors s.types_only attributes
