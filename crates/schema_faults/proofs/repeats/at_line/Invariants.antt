use Rattle.std.proofs.Common.{◌≡◌, drop}
use Rattle.schema_faults.specs.Repeats.{in_line_from, in_line}
use Rattle.schema_faults.proofs.repeats.at_line.Given as goal

abbrev pub invariant-loop-number : goal.invariant-loop-number
invariant-loop-number l = in_line_from l.number (drop l.number l.descriptions) l.line ≡ in_line l.descriptions l.line
