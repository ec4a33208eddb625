-- What is kept stands for: entries with keys, as the tree has them, for entries without.
use Rattle.std.specs.Prelude.{◌<◌, ℕ, List, [], ◌∷◌, map}
use Rattle.dir_index.specs.ldap_schema.Schema.{SchemaModel}
use Rattle.dir_index.specs.dir_entry.Entry.{attributes_of, IsKeyedBy}
use Rattle.directory_api.specs.dir_tree.Directory.{Entered, TreeModel}
use Rattle.indexed_tree.specs.Directory.{Directory, NamedEntry}
use Rattle.indexed_tree.specs.declared.held.StoredEntry.{StoredEntry}

-- an entry under its number, where it is
abbrev pub entered_of : ℕ → StoredEntry → Entered
entered_of k s = record { number = k; name = s.name; entry = s.entry.now }

-- an entry without its keys
abbrev pub named : Entered → NamedEntry
named e = record { number = e.number; name = e.name; attributes = attributes_of e.entry }

-- the directory of a schema and a tree
abbrev pub directory : SchemaModel → TreeModel → Directory
directory s t = record { schema = s; suffix = t.suffix; entries = map named t.entries }

-- The keys of each entry are those of its values under a schema.
abbrev pub AreKeyedBy : SchemaModel → List Entered → Type 0
AreKeyedBy s [] = Unit {0}
AreKeyedBy s (e ∷ es) = IsKeyedBy s e.entry × AreKeyedBy s es

-- each number is below this one
abbrev pub NumbersBelow : ℕ → List NamedEntry → Type 0
NumbersBelow k [] = Unit {0}
NumbersBelow k (e ∷ es) = (e.number < k) × NumbersBelow k es
