use Rattle.std.proofs.Common.{◌≡◌, drop}
use Rattle.ldif_faults.specs.Values.{first_line, is_named_otherwise}
use Rattle.ldif_faults.proofs.values.first_named_otherwise.Given as goal

abbrev pub invariant-loop-line : goal.invariant-loop-line
invariant-loop-line l = first_line (is_named_otherwise l.schema l.pairs) (drop l.line-index l.lines) ≡
    first_line (is_named_otherwise l.schema l.pairs) l.lines
