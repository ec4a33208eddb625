use Rattle.std.proofs.Common.{◌≡◌, drop}
use Rattle.dir_entry.specs.Entry.{attributes_of}
use Rattle.entry_changes.specs.Naming.{has_rdn}
use Rattle.entry_changes.proofs.naming.holds_rdn.Given as goal

abbrev pub invariant-loop-pair : goal.invariant-loop-pair
invariant-loop-pair l = has_rdn l.schema (drop l.pair-index l.rdn) (attributes_of l.entry) ≡ has_rdn l.schema l.rdn
    (attributes_of l.entry)
