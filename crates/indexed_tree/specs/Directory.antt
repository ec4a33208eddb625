-- The directory as everything above sees it: its schema, the name of its root, and its entries in order of number, each
-- with its name and its attributes. RFC 4512 2.
use Rattle.std.specs.Prelude.{ℕ, List}
use Rattle.dir_index.specs.ldap_schema.Schema.{SchemaModel}
use Rattle.dir_index.specs.ldap_dn.Names.{RdnModel}
use Rattle.dir_index.specs.dir_entry.Entry.{AttributeModel}

-- an entry: the number of the update that added it, its name as it is spelled, root first, and its attributes
pub record NamedEntry : Type 0 where
  pub number : ℕ
  pub name : List RdnModel
  pub attributes : List AttributeModel

-- the schema, the name of the root, and the entries in rising order of number
pub record Directory : Type 0 where
  pub schema : SchemaModel
  pub suffix : List RdnModel
  pub entries : List NamedEntry
