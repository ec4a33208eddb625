-- What search doesn't prove of `update`: `loop-init` and `loop-preserved`, by a lemma of `Attended`.
use Rattle.client_link.specs.session_handler.View.{config_view}
use Rattle.session_pool.specs.Sittings as sittings
use Rattle.session_pool.proofs.Attended.{updated_on}
use Rattle.session_pool.proofs.pool.SessionPool.update.Goals as goal

pub loop-init : goal.loop-init
loop-init g c = sittings.none

pub loop-preserved : goal.loop-preserved
loop-preserved g c = updated_on g.D.Directory.allows (config_view c.args.self.now.config) _ _ _ c.loop.invariant
    c.attend_updates-then.ensures.updated
