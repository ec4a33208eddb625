use Rattle.schema_reader.specs.private.Looping.{IsUpBut}
use Rattle.schema_reader.proofs.type_loops.far_up.Given as goal

abbrev pub invariant-loop-left : goal.invariant-loop-left
invariant-loop-left l = IsUpBut l.types l.left l.steps.items

abbrev pub decreases-loop-left : goal.decreases-loop-left
decreases-loop-left l = l.left
