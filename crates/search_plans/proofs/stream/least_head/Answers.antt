-- What search doesn't prove of `least_head`: `loop-walk-preserved`, by lemmas of `StreamSteps`.
use Rattle.search_plans.proofs.StreamSteps.{least_step}
use Rattle.search_plans.proofs.stream.least_head.Goals as goal

pub loop-walk-preserved : goal.loop-walk-preserved
loop-walk-preserved c =
    least_step c.args.walks.now c.loop-walk.walk-index c.walk-item.result c.loop-walk.best c.smaller-best.result
    c.loop-walk-test.true c.walk-item.is c.smaller-best.ensures c.loop-walk.invariant
