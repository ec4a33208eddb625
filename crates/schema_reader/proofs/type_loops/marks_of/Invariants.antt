use Rattle.std.proofs.Common.{◌≡◌, drop, length, replicate, false}
use Rattle.schema_reader.specs.private.Looping.{all_marked}
use Rattle.schema_reader.proofs.type_loops.marks_of.Given as goal

abbrev pub invariant-loop-step : goal.invariant-loop-step
invariant-loop-step l = all_marked l.marks.items (drop l.step-index l.steps) ≡
    all_marked (replicate (length l.steps) false) l.steps
