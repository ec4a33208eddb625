use Rattle.std.proofs.Common.{◌≡◌, drop}
use Rattle.ldif_faults.specs.Values.{first_line, is_bad_value}
use Rattle.ldif_faults.proofs.values.first_bad.Given as goal

abbrev pub invariant-loop-line : goal.invariant-loop-line
invariant-loop-line l = first_line (is_bad_value l.schema) (drop l.line-index l.lines) ≡
    first_line (is_bad_value l.schema) l.lines
