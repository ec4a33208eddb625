use Rattle.schema_reader.specs.private.Falling.{IsFallingBelow}
use Rattle.schema_reader.proofs.class_loops.are_falling.Given as goal

abbrev pub invariant-loop-number : goal.invariant-loop-number
invariant-loop-number l = IsFallingBelow l.classes l.ranks l.number
