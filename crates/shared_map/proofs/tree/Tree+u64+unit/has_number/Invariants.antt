use Rattle.shared_map.specs.private.Dense.{IsOnWay}
use Rattle.shared_map.proofs.tree.Tree+u64+unit.has_number.Given as goal

abbrev pub invariant-loop-at : goal.invariant-loop-at
invariant-loop-at l = IsOnWay l.number l.from l.upto l.self.0 l.at.0

abbrev pub decreases-loop-at : goal.decreases-loop-at
decreases-loop-at l = l.at.1
