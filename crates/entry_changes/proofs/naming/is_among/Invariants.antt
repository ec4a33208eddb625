use Rattle.std.proofs.Common.{◌≡◌, drop}
use Rattle.std.specs.List.{list_any}
use Rattle.entry_changes.specs.Naming.{is_same_value}
use Rattle.entry_changes.proofs.naming.is_among.Given as goal

abbrev pub invariant-loop-other : goal.invariant-loop-other
invariant-loop-other l = list_any (is_same_value l.schema l.pair) (drop l.other-index l.others) ≡
    list_any (is_same_value l.schema l.pair) l.others
