-- What search doesn't prove of `joined_at`: what it returns, by lemmas of `Joined`.
use Rattle.std.proofs.Common.{◌∙◌}
use Rattle.search_plans.proofs.Joined.{between_holds, implied_by_one}
use Rattle.search_plans.proofs.joining.joined_at.Goals as goal

pub returns-in_ok-plan-in-Some-upper_bound : goal.returns-in_ok-plan-in-Some-upper_bound
returns-in_ok-plan-in-Some-upper_bound c = λ ix e h.
    (c.in_ok-plan-in-Some-upper_bound).ensures ix e
    ∙ between_holds ix e _ _ c.in-Some-upper_bound.ensures.of_type
    (implied_by_one c.args.plans.now c.args.i c.index-plans-i.result _ c.requires c.index-plans-i.is c.in-Some.ensures
    ix e h)
    (c.in-Some-upper_bound.ensures.implied ix e h)
