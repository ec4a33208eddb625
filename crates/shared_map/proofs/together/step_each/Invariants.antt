use Rattle.std.proofs.Common.{◌≡◌}
use Rattle.shared_map.proofs.together.step_each.Given as goal

abbrev pub invariant-loop-i : goal.invariant-loop-i
invariant-loop-i g l = l.ways ≡ l.initial.ways
