-- What search doesn't prove of `attend_updates`: `loop-update-init` and `loop-update-preserved`, step by step.
use Rattle.session_pool.specs.Sittings as sittings
use Rattle.session_pool.proofs.Attended.{same_then}
use Rattle.session_pool.proofs.pool.SessionPool.attend_updates.Goals as goal

pub loop-update-init : goal.loop-update-init
loop-update-init g c = record {
  same = same_then _ _ _ c.answer_one.ensures.same c.say-then.ensures.same;
  updated = sittings.one_more c.args.pooled.now.number sittings.none c.answer_one.ensures.answers;
}

pub loop-update-preserved : goal.loop-update-preserved
loop-update-preserved g c = record {
  same = same_then _ _ _ (same_then _ _ _ (same_then _ _ _ c.loop-update.invariant.same c.becomes-then.ensures.same)
      c.answer_one-in-loop-update.ensures.same) c.say-then-in-loop-update.ensures.same;
  updated = sittings.one_more c.becomes-then.new.pooled.number c.loop-update.invariant.updated
      c.answer_one-in-loop-update.ensures.answers;
}
