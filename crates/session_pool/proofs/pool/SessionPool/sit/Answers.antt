-- What search doesn't prove of `sit`: `loop-init` and `loop-preserved`, step by step.
use Rattle.session_pool.specs.Sittings as sittings
use Rattle.session_pool.proofs.pool.SessionPool.sit.Goals as goal

pub loop-init : goal.loop-init
loop-init g c = sittings.none

pub loop-preserved : goal.loop-preserved
loop-preserved g c = sittings.one_more c.in-Some-next.pooled.number c.loop.invariant c.attend-then.ensures.attends
