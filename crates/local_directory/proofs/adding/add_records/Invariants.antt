-- LDIF and the directory: what the loop of `add_records` keeps.
use Rattle.std.proofs.Common.{◌≡◌, ◌+◌, drop}
use Rattle.dir_store.specs.indexed_tree.Stored.{NumbersBelow}
use Rattle.dir_store.specs.Updates.{directory_after}
use Rattle.local_directory.specs.Added.{adds, first_refused}
use Rattle.local_directory.proofs.adding.add_records.Given as goal

abbrev pub invariant-loop-index : goal.invariant-loop-index
invariant-loop-index l =
    (directory_after l.store.directory l.index (adds (drop l.index l.records)) ≡ directory_after l.fn.store.directory
    0 (adds l.records))
    × (first_refused l.store.directory l.index (adds (drop l.index l.records)) ≡ first_refused l.fn.store.directory 0
    (adds l.records))
    × NumbersBelow (l.index + 1) l.store.directory.entries
    × (l.store.indexes ≡ l.fn.store.indexes)
