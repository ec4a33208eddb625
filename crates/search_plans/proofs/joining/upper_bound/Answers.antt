-- What search doesn't prove of `upper_bound`: the clause `implied`, by lemmas of `Joined`.
use Rattle.search_plans.proofs.Joined.{implied_by_one}
use Rattle.search_plans.proofs.joining.upper_bound.Goals as goal

pub returns-then-is_some-clause-implied : goal.returns-then-is_some-clause-implied
returns-then-is_some-clause-implied c = implied_by_one c.args.plans.now c.loop-plan.plan-index c.plan-item.result _
    c.loop-plan-test.true c.plan-item.is c.in-Some.ensures
