-- What is shown of an entry: RFC 4511 4.5.1.8. Which attributes are selected, `directory_api` says.
use Rattle.std.specs.Prelude.{ℕ, List, Bool}
use Rattle.indexed_tree.specs.ldap_schema.Schema.{SchemaModel}
use Rattle.indexed_tree.specs.directory_api.ldap_msg.Messages.{SearchResultEntryValue}
use Rattle.indexed_tree.specs.ldap_dn.Printed.{printed_name}
use Rattle.indexed_tree.specs.Directory.{NamedEntry}
pub use Rattle.indexed_tree.specs.directory_api.Selection.{name_of_type, is_named_by, is_selected_by, is_selected, first_name, shown, attributes_selected}

-- What is shown of an entry: its printed name, and the selected attributes in its order.
abbrev pub selected : SchemaModel → List (List ℕ) → Bool → NamedEntry → SearchResultEntryValue
selected s selectors types_only e =
    record { object_name = printed_name s e.name; attributes = attributes_selected s selectors types_only e.attributes }
