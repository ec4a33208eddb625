use Rattle.std.proofs.Common.{◌≡◌, ◌++◌, drop}
use Rattle.ldif_faults.specs.Classes.{types_in}
use Rattle.ldif_faults.proofs.classes.types_in.Given as goal

abbrev pub invariant-loop-line : goal.invariant-loop-line
invariant-loop-line l = l.types.items ++ types_in l.schema (drop l.line-index l.lines) ≡ types_in l.schema l.lines
