use Rattle.std.proofs.Common.{◌≡◌, drop}
use Rattle.dir_entry.specs.Entry.{attributes_of, IsKeyedBy}
use Rattle.entry_changes.specs.Naming.{with_rdn}
use Rattle.entry_changes.proofs.naming.add_rdn.Given as goal

abbrev pub invariant-loop-pair : goal.invariant-loop-pair
invariant-loop-pair l =
    (with_rdn l.schema (drop l.pair-index l.rdn) (attributes_of l.so_far) ≡ with_rdn l.schema l.rdn
    (attributes_of l.fn.entry))
    × IsKeyedBy l.schema l.so_far
