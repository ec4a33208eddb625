use Rattle.std.proofs.Common.{◌≡◌, drop}
use Rattle.ldif_faults.specs.Values.{first_line, is_unknown}
use Rattle.ldif_faults.proofs.values.first_unknown.Given as goal

abbrev pub invariant-loop-line : goal.invariant-loop-line
invariant-loop-line l = first_line (is_unknown l.schema) (drop l.line-index l.lines) ≡
    first_line (is_unknown l.schema) l.lines
