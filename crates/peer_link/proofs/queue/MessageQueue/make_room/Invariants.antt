use Rattle.std.proofs.Common.{length}
use Rattle.peer_link.specs.Waiting.{HasForgotten}
use Rattle.peer_link.proofs.queue.MessageQueue.make_room.Given as goal

abbrev pub invariant-loop-self : goal.invariant-loop-self
invariant-loop-self g l = HasForgotten l.fn.self l.weight l.self

abbrev pub decreases-loop-self : goal.decreases-loop-self
decreases-loop-self g l = length l.self.waiting
