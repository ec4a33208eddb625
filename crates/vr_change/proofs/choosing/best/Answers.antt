-- What search doesn't prove of `best`: `loop-sender-init`, by lemmas of `Chosen`.
use Rattle.vr_change.proofs.Chosen.{best_none}
use Rattle.vr_change.proofs.choosing.best.Goals as goal

pub loop-sender-init : goal.loop-sender-init
loop-sender-init g c = best_none c.args.notes.now c.args.count
