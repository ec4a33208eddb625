-- LDIF and the directory: what the loop of `check_records` keeps.
use Rattle.std.proofs.Common.{◌≡◌, ◌+◌, ◌++◌, drop}
use Rattle.dir_store.specs.indexed_tree.Stored.{NumbersBelow}
use Rattle.local_directory.specs.Added.{adds}
use Rattle.local_directory.specs.Checked.{refusals}
use Rattle.local_directory.proofs.checking.check_records.Given as goal

abbrev pub invariant-loop-index : goal.invariant-loop-index
invariant-loop-index l =
    (l.refused.items ++ refusals l.store.directory l.index (adds (drop l.index l.records)) ≡
    refusals l.fn.store.directory 0 (adds l.records))
    × NumbersBelow (l.index + 1) l.store.directory.entries
