use Rattle.std.proofs.Common.{◌≡◌, ◌++◌, map, drop}
use Rattle.schema_reader.specs.private.Looping.{then_up, step_at, doubled}
use Rattle.schema_reader.proofs.type_loops.doubled.Given as goal

abbrev pub invariant-loop-step : goal.invariant-loop-step
invariant-loop-step l = l.found.items ++ map (λ o. then_up o (step_at l.steps)) (drop l.step-index l.steps) ≡
    doubled l.steps
