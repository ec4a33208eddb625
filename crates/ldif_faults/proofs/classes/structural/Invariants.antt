use Rattle.std.proofs.Common.{◌≡◌, ◌++◌, drop}
use Rattle.ldif_faults.specs.Classes.{structural}
use Rattle.ldif_faults.proofs.classes.structural.Given as goal

abbrev pub invariant-loop-class : goal.invariant-loop-class
invariant-loop-class l = l.found.items ++ structural l.schema (drop l.class-index l.classes) ≡ structural l.schema
    l.classes
