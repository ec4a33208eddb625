-- The order of a directory's entries: by number, each once. What updates do is above.
use Rattle.std.specs.Prelude.{◌<◌, ℕ, List, [], ◌∷◌}
use Rattle.indexed_tree.specs.ldap_dn.Names.{RdnModel}
use Rattle.indexed_tree.specs.ldap_schema.Schema.{SchemaModel}
use Rattle.entry_updates.specs.ldap_op.Values.{OpValue}
use Rattle.indexed_tree.specs.Directory.{NamedEntry}
use Rattle.dir_store.specs.Updates.{directory_of}

-- each number is above this one
abbrev pub NumbersAbove : ℕ → List NamedEntry → Type 0
NumbersAbove k [] = Unit {0}
NumbersAbove k (e ∷ es) = (k < e.number) × NumbersAbove k es

-- numbers rise from entry to entry, so each is there once
abbrev pub NumbersAreRising : List NamedEntry → Type 0
NumbersAreRising [] = Unit {0}
NumbersAreRising (e ∷ es) = NumbersAbove e.number es × NumbersAreRising es

-- The entries of the directory of a list of updates stand in rising order of number.
abbrev pub EntriesRise : Type 0
EntriesRise = (s : SchemaModel) (suffix : List RdnModel) (ops : List OpValue) →
    NumbersAreRising (directory_of s suffix ops).entries
