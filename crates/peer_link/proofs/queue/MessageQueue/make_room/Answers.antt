-- What search doesn't prove of `make_room`: `loop-self-init` and `loop-self-preserved`, by lemmas of `Forgetting`.
use Rattle.peer_link.proofs.Forgetting.{none_forgotten, one_more_forgotten}
use Rattle.peer_link.proofs.queue.MessageQueue.make_room.Goals as goal

pub loop-self-init : goal.loop-self-init
loop-self-init g c = none_forgotten c.args.self.now c.args.weight

pub loop-self-preserved : goal.loop-self-preserved
loop-self-preserved g c =
    one_more_forgotten c.args.self.now c.loop-self.self c.forget_oldest.new.self c.args.weight c.loop-self.invariant
    (c.is_full_for.ensures.full c.loop-self-test.true).1 c.forget_oldest.ensures
