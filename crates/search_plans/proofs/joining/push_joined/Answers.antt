-- What search doesn't prove of `push_joined`: the clause `same`, by lemmas of `Joined`.
use Rattle.search_plans.proofs.Joined.{implied_push}
use Rattle.search_plans.proofs.joining.push_joined.Goals as goal

pub returns-in_ok-push-in-Some-clause-same : goal.returns-in_ok-push-in-Some-clause-same
returns-in_ok-push-in-Some-clause-same c =
    let implied = rw (c.in-Some.is, c.deref.ensures.value) at c.in_ok-plan.ensures in
    implied_push c.args.plans.now.items c.push.new.self.items c.in-Some.plan (c.in_ok-push-in-Some).ensures.items
    implied
