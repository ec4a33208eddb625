-- What search doesn't prove of `+has`: the clause `same`, `any_has-loop-i-preserved`, the clause `found` and
-- `all_have-loop-i-preserved`, by lemmas of `Forward`, `Gathered` and `ResolvedPlans`.
use Rattle.std.proofs.Common.{◌∙◌, sym, ap, refl, arith}
use Rattle.std.proofs.lemmas.List.Folds.{list_all-map}
use Rattle.search_plans.specs.declared.resolved.ResolvedPlan.{ResolvedPlan}
use Rattle.search_plans.specs.declared.resolved.ResolvedPlan.TheVariants.{outs-Union, outs-Inter, outs-Not}
use Rattle.search_plans.specs.private.Resolved.{is_in_resolved}
use Rattle.search_plans.proofs.Forward.{row_step, unvisited_step, any_step, any_none, all_step, all_none, union_forward, inter_forward, same_not}
use Rattle.search_plans.proofs.Gathered.{any_map}
use Rattle.search_plans.proofs.ResolvedPlans.{in_resolved-Union, in_resolved-Inter}
use Rattle.search_plans.proofs.resolved.+has.Goals as goal

pub any_has-returns-then-has_inside-clause-same : goal.any_has-returns-then-has_inside-clause-same
any_has-returns-then-has_inside-clause-same g t c =
    row_step (g.K.PostingLists.lists c.args.kept.now) c.args.number c.args.plans.now c.loop-i.plans _ c.loop-i.i
    c.index-plans-i.result c.has_inside.new.plan c.loop-i.invariant.same c.has_inside.ensures.same refl

pub any_has-loop-i-preserved : goal.any_has-loop-i-preserved
any_has-loop-i-preserved g t c = record {
  unvisited = unvisited_step c.args.plans.now c.loop-i.plans c.loop-i.i c.has_inside.new.plan
      c.loop-i.invariant.unvisited;
  same =
      row_step (g.K.PostingLists.lists c.args.kept.now) c.args.number c.args.plans.now c.loop-i.plans _ c.loop-i.i
      c.index-plans-i.result c.has_inside.new.plan c.loop-i.invariant.same c.has_inside.ensures.same refl;
  left =
      any_step (λ p. is_in_resolved (g.K.PostingLists.lists c.args.kept.now) p c.args.number) c.args.plans.now
      c.loop-i.plans c.loop-i.i c.index-plans-i.result c.has_inside.result (c.loop-i.invariant.same c.args.number
      (omega arith))
      c.loop-i-test.true c.has_inside.ensures.found c.if-has_inside.false c.loop-i.invariant.left;
}

pub any_has-returns-clause-found : goal.any_has-returns-clause-found
any_has-returns-clause-found g t c = any_none (λ p. is_in_resolved (g.K.PostingLists.lists c.args.kept.now) p
    c.args.number) c.args.plans.now c.loop-i.i c.loop-i-test.false c.loop-i.invariant.left

pub all_have-returns-then-not-has_inside-clause-same : goal.all_have-returns-then-not-has_inside-clause-same
all_have-returns-then-not-has_inside-clause-same g t c =
    row_step (g.K.PostingLists.lists c.args.kept.now) c.args.number c.args.plans.now c.loop-i.plans _ c.loop-i.i
    c.index-plans-i.result c.has_inside.new.plan c.loop-i.invariant.same c.has_inside.ensures.same refl

pub all_have-loop-i-preserved : goal.all_have-loop-i-preserved
all_have-loop-i-preserved g t c = record {
  unvisited = unvisited_step c.args.plans.now c.loop-i.plans c.loop-i.i c.has_inside.new.plan
      c.loop-i.invariant.unvisited;
  same =
      row_step (g.K.PostingLists.lists c.args.kept.now) c.args.number c.args.plans.now c.loop-i.plans _ c.loop-i.i
      c.index-plans-i.result c.has_inside.new.plan c.loop-i.invariant.same c.has_inside.ensures.same refl;
  left =
      all_step (λ p. is_in_resolved (g.K.PostingLists.lists c.args.kept.now) p c.args.number) c.args.plans.now
      c.loop-i.plans c.loop-i.i c.index-plans-i.result c.has_inside.result (c.loop-i.invariant.same c.args.number
      (omega arith))
      c.loop-i-test.true c.has_inside.ensures.found c.if-not-has_inside.false c.loop-i.invariant.left;
}

pub all_have-returns-clause-found : goal.all_have-returns-clause-found
all_have-returns-clause-found g t c = all_none (λ p. is_in_resolved (g.K.PostingLists.lists c.args.kept.now) p
    c.args.number) c.args.plans.now c.loop-i.i c.loop-i-test.false c.loop-i.invariant.left

pub has_inside-returns-in-Union-clause-found : goal.has_inside-returns-in-Union-clause-found
has_inside-returns-in-Union-clause-found g t c =
    let found = rw (c.deref_mut.ensures.value, c.in-Union.plans-is) at c.any_has.ensures.found in
    found ∙ sym (ap (λ (p : ResolvedPlan). is_in_resolved (g.K.PostingLists.lists c.args.kept.now) p c.args.number)
    c.in-Union.is ∙ in_resolved-Union (g.K.PostingLists.lists c.args.kept.now) c.args.number c.in-Union.plans
    ∙ any_map _ _ c.in-Union.plans.items)

pub has_inside-returns-in-Inter-clause-found : goal.has_inside-returns-in-Inter-clause-found
has_inside-returns-in-Inter-clause-found g t c =
    let found = rw (c.deref_mut-in-Inter.ensures.value, c.in-Inter.plans-is) at c.all_have.ensures.found in
    found ∙ sym (ap (λ (p : ResolvedPlan). is_in_resolved (g.K.PostingLists.lists c.args.kept.now) p c.args.number)
    c.in-Inter.is ∙ in_resolved-Inter (g.K.PostingLists.lists c.args.kept.now) c.args.number c.in-Inter.plans
    ∙ list_all-map _ _ c.in-Inter.plans.items)

pub has_inside-returns-in-Union-clause-same : goal.has_inside-returns-in-Union-clause-same
has_inside-returns-in-Union-clause-same g t c =
    let row = rw (c.deref_mut.ensures.value, c.in-Union.plans-is) at c.any_has.ensures.same in
    let long = rw (c.deref_mut.ensures.value, c.in-Union.plans-is) at c.any_has.auto.plans in
    rw (c.in-Union.is, outs-Union c.in-Union.plans) (union_forward (g.K.PostingLists.lists c.args.kept.now)
    c.args.number c.in-Union.plans c.any_has.new.plans long row)

pub has_inside-returns-in-Inter-clause-same : goal.has_inside-returns-in-Inter-clause-same
has_inside-returns-in-Inter-clause-same g t c =
    let row = rw (c.deref_mut-in-Inter.ensures.value, c.in-Inter.plans-is) at c.all_have.ensures.same in
    let long = rw (c.deref_mut-in-Inter.ensures.value, c.in-Inter.plans-is) at c.all_have.auto.plans in
    rw (c.in-Inter.is, outs-Inter c.in-Inter.plans) (inter_forward (g.K.PostingLists.lists c.args.kept.now)
    c.args.number c.in-Inter.plans c.all_have.new.plans long row)

pub has_inside-returns-in-Not-clause-same : goal.has_inside-returns-in-Not-clause-same
has_inside-returns-in-Not-clause-same g t c =
    let one = rw (c.deref_mut-in-Not.ensures.value, c.in-Not.plan-is) at c.has_inside.ensures.same in
    rw (c.in-Not.is, outs-Not c.in-Not.plan) (same_not (g.K.PostingLists.lists c.args.kept.now) c.args.number _
    c.in-Not.plan one)
