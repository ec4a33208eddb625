use Rattle.std.proofs.Common.{◌≡◌, ◌++◌, drop}
use Rattle.ldif_faults.specs.Classes.{classes_in}
use Rattle.ldif_faults.proofs.classes.classes_in.Given as goal

abbrev pub invariant-loop-line : goal.invariant-loop-line
invariant-loop-line l = l.classes.items ++ classes_in l.schema (drop l.line-index l.lines) ≡ classes_in l.schema l.lines
