use Rattle.std.proofs.Common.{◌≡◌, drop}
use Rattle.ldif_faults.specs.Classes.{first_missing}
use Rattle.ldif_faults.proofs.classes.first_missing.Given as goal

abbrev pub invariant-loop-class : goal.invariant-loop-class
invariant-loop-class l = first_missing l.schema l.types (drop l.class-index l.classes) ≡ first_missing l.schema
    l.types l.classes
