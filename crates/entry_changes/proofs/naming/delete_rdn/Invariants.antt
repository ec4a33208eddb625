use Rattle.std.proofs.Common.{◌≡◌, drop}
use Rattle.dir_entry.specs.Entry.{attributes_of, IsKeyedBy}
use Rattle.entry_changes.specs.Naming.{without_rdn}
use Rattle.entry_changes.proofs.naming.delete_rdn.Given as goal

abbrev pub invariant-loop-pair : goal.invariant-loop-pair
invariant-loop-pair l =
    (without_rdn l.schema l.new (drop l.pair-index l.old) (attributes_of l.so_far) ≡ without_rdn l.schema l.new l.old
    (attributes_of l.fn.entry))
    × IsKeyedBy l.schema l.so_far
