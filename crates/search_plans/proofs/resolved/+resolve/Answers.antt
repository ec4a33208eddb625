-- What search doesn't prove of `+resolve`: `resolve-returns-in_ok-resolve_each-in-Union`,
-- `resolve-returns-in_ok-resolve_each-in-Inter`, `resolve-returns-in_ok-second-in-Minus`,
-- `resolve_each-loop-plan-preserved` and `resolve_each-returns`, by lemmas of `ResolvedPlans` and `Rows`.
use Rattle.search_plans.proofs.ResolvedPlans.{resolved_union, resolved_inter, resolved_minus, resolved_more, resolved_all}
use Rattle.search_plans.proofs.Rows.{if_ok_weaker}
use Rattle.search_plans.proofs.resolved.+resolve.Goals as goal

pub resolve-returns-in_ok-resolve_each-in-Union : goal.resolve-returns-in_ok-resolve_each-in-Union
resolve-returns-in_ok-resolve_each-in-Union g t c =
    let each = rw c.deref.ensures.value at c.in_ok-resolve_each-in-Union.ensures in
    resolved_union (g.K.PostingLists.lists c.args.kept.now) c.args.plan.now c.in-Union.plans
    c.in_ok-resolve_each-in-Union.field-0 c.in-Union.is each

pub resolve-returns-in_ok-resolve_each-in-Inter : goal.resolve-returns-in_ok-resolve_each-in-Inter
resolve-returns-in_ok-resolve_each-in-Inter g t c =
    let each = rw c.deref-in-Inter.ensures.value at c.in_ok-resolve_each-in-Inter.ensures in
    resolved_inter (g.K.PostingLists.lists c.args.kept.now) c.args.plan.now c.in-Inter.plans
    c.in_ok-resolve_each-in-Inter.field-0 c.in-Inter.is each

pub resolve-returns-in_ok-second-in-Minus : goal.resolve-returns-in_ok-second-in-Minus
resolve-returns-in_ok-second-in-Minus g t c =
    let one = rw c.deref-in-Minus.ensures at c.in_ok-first-in-Minus.ensures in
    let other = rw c.deref-in-Minus-2.ensures at c.in_ok-second-in-Minus.ensures in
    if_ok_weaker _ _
    (resolved_minus (g.K.PostingLists.lists c.args.kept.now) c.args.plan.now c.in-Minus.plan c.in-Minus.without
    c.in_ok-first-in-Minus.first c.in_ok-second-in-Minus.second c.in-Minus.is one other)
    c.difference.result c.difference.ensures

pub resolve_each-loop-plan-preserved : goal.resolve_each-loop-plan-preserved
resolve_each-loop-plan-preserved g t c =
    resolved_more (g.K.PostingLists.lists c.args.kept.now) c.args.plans.now c.loop-plan.plan-index c.plan-item.result
    c.loop-plan.resolved.items c.push.new.self.items c.in_ok-resolve.field-0
    c.loop-plan.invariant c.loop-plan-test.true c.plan-item.is c.in_ok-resolve.ensures c.in_ok-push.ensures.items

pub resolve_each-returns : goal.resolve_each-returns
resolve_each-returns g t c =
    resolved_all (g.K.PostingLists.lists c.args.kept.now) c.args.plans.now c.loop-plan.plan-index
    c.loop-plan.resolved.items c.loop-plan.invariant c.loop-plan-test.false
