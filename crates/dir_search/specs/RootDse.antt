-- The root DSE: RFC 4512 5.1. It is no entry of the directory.
use Rattle.std.specs.Prelude.{ℕ, List, [], ◌∷◌, ◌++◌, Bool, cond, codes, Result, Ok, Err, Option, Some, None}
use Rattle.std.specs.List.{list_any}
use Rattle.std.specs.Str.{str_eq_ignore_ascii_case}
use Rattle.indexed_tree.specs.ldap_schema.Schema.{SchemaModel, find}
use Rattle.indexed_tree.specs.ldap_dn.Printed.{printed_name}
use Rattle.indexed_tree.specs.dir_entry.Entry.{AttributeModel}
use Rattle.indexed_tree.specs.dir_entry.Adding.{with_attribute}
use Rattle.indexed_tree.specs.directory_api.ldap_msg.ldap_parts.Values.{PartialAttributeValue}
use Rattle.indexed_tree.specs.directory_api.ldap_msg.Messages.{SearchResultEntryValue}
use Rattle.indexed_tree.specs.Directory.{Directory}
use Rattle.dir_search.specs.Selection.{attributes_selected}

-- no attributes where the entry can't be made
abbrev pub or_nothing : Result (List AttributeModel) ℕ → List AttributeModel
or_nothing (Err code) = []
or_nothing (Ok e) = e

-- the type objectClass with the value top; nothing, where the schema has not both
abbrev pub class_top : SchemaModel → Option ℕ → List AttributeModel
class_top s None = []
class_top s (Some t) = or_nothing (with_attribute s t (codes "top" ∷ []) [])

-- the user attributes of the root DSE, which are all that a filter sees: objectClass top
abbrev pub dse_attributes : SchemaModel → List AttributeModel
dse_attributes s = class_top s (find s (codes "objectClass"))

-- the name of the directory's root, as it is printed (RFC 4512 5.1.2)
abbrev pub naming_contexts : Directory → PartialAttributeValue
naming_contexts d = record { description = codes "namingContexts"; values = printed_name d.schema d.suffix ∷ [] }

-- the controls that are recognised (RFC 4512 5.1.3)
abbrev pub supported_control : PartialAttributeValue
supported_control = record {
  description = codes "supportedControl";
  values = codes "2.25.20120101" ∷ codes
      "2.25.20120102" ∷ [];
}

-- the extended operations that are recognised (RFC 4512 5.1.4)
abbrev pub supported_extension : PartialAttributeValue
supported_extension = record { description = codes "supportedExtension"; values = codes "2.25.20120103" ∷ [] }

-- the version of the protocol: 3 (RFC 4512 5.1.6)
abbrev pub supported_ldap_version : PartialAttributeValue
supported_ldap_version = record { description = codes "supportedLDAPVersion"; values = codes "3" ∷ [] }

-- typesOnly leaves the values out (RFC 4511 4.5.1.6)
abbrev pub without_values : Bool → PartialAttributeValue → PartialAttributeValue
without_values types_only a = record { description = a.description; values = cond types_only [] a.values }

-- an operational attribute is shown where a selector is its name, whatever the case (RFC 4511 4.5.1.8)
abbrev pub where_named : List (List ℕ) → Bool → PartialAttributeValue → List PartialAttributeValue
where_named selectors types_only a = cond (list_any (str_eq_ignore_ascii_case a.description) selectors)
    (without_values types_only a ∷ []) []

-- What is shown of the root DSE: no name, the selected user attributes, then the operational ones that are named.
abbrev pub dse_selected : Directory → List (List ℕ) → Bool → SearchResultEntryValue
dse_selected d selectors types_only = record {
  object_name = [];
  attributes =
      attributes_selected d.schema selectors types_only (dse_attributes d.schema)
      ++ where_named selectors types_only (naming_contexts d)
      ++ where_named selectors types_only supported_control
      ++ where_named selectors types_only supported_extension
      ++ where_named selectors types_only supported_ldap_version;
}
