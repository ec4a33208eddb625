use Rattle.std.proofs.Common.{◌≡◌, ◌++◌, drop}
use Rattle.schema_faults.specs.Loops.{types_from}
use Rattle.schema_faults.proofs.loops.types_up.Given as goal

abbrev pub invariant-loop-description : goal.invariant-loop-description
invariant-loop-description l =
    l.numbers.items ++ types_from l.types l.start l.current (drop l.description-index l.all) ≡ types_from l.types
    l.start l.start l.types
