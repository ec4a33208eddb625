use Rattle.std.proofs.Common.{◌≡◌, ◌++◌, drop}
use Rattle.ldif_faults.specs.Classes.{allowed}
use Rattle.ldif_faults.proofs.classes.allowed.Given as goal

abbrev pub invariant-loop-class : goal.invariant-loop-class
invariant-loop-class l = l.types.items ++ allowed l.schema (drop l.class-index l.classes) ≡ allowed l.schema l.classes
