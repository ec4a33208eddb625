use Rattle.std.proofs.Common.{◌≡◌, ◌++◌, ◌+◌, drop}
use Rattle.ldif_faults.specs.Placed.{lines_from}
use Rattle.ldif_faults.proofs.placed.value_lines.Given as goal

abbrev pub invariant-loop-index : goal.invariant-loop-index
invariant-loop-index l = l.lines.items ++ lines_from l.place (l.index + 1) (drop l.index l.values) ≡
    lines_from l.place 1 l.values
