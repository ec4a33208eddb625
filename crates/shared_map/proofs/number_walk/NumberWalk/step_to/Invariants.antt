use Rattle.std.proofs.Common.{◌≡◌, filter, nat_le, length}
use Rattle.shared_map.proofs.number_walk.NumberWalk.step_to.Given as goal

abbrev pub invariant-loop-self : goal.invariant-loop-self
invariant-loop-self l = filter (nat_le l.least) l.self ≡ filter (nat_le l.least) l.fn.self

abbrev pub decreases-loop-self : goal.decreases-loop-self
decreases-loop-self l = length l.self
