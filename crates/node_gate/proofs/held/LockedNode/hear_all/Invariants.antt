use Rattle.std.proofs.Common.{◌≡◌}
use Rattle.node_gate.proofs.held.LockedNode.hear_all.Given as goal

abbrev pub invariant-loop-one : goal.invariant-loop-one
invariant-loop-one g l = l.self.published ≡ l.fn.self.published
