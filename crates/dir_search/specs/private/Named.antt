-- What is kept of the name of the entry that was read before.
use Rattle.std.specs.Prelude.{◌≡◌, ℕ, List, Option, Some, reverse}
use Rattle.indexed_tree.specs.ldap_schema.Schema.{SchemaModel}
use Rattle.indexed_tree.specs.ldap_dn.Printed.{printed_behind}
use Rattle.indexed_tree.specs.dir_tree.Directory.{Entered, entry_at}
use Rattle.dir_search.specs.Numbered.{name_of}

-- entries, and the schema that they are printed by
pub record ReaderModel : Type 0 where
  pub schema : SchemaModel
  pub entries : List Entered

-- the text is printed behind the relative name of each entry right below the number's
abbrev pub IsBehind : SchemaModel → List Entered → Option ℕ → List ℕ → Type 0
IsBehind s d kept text = (k : ℕ) → kept ≡ Some k → text ≡ printed_behind s (reverse (name_of (entry_at k d)))
