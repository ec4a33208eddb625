-- What search doesn't prove of `+gather`: the clause `gathers` and the clause `rising`, by lemmas of `Equations` and
-- `Gathered`.
use Rattle.std.proofs.Common.{sym, ap, ◌∙◌}
use Rattle.std.proofs.lemmas.List.Folds.{list_all-map}
use Rattle.search_plans.specs.Sets.{is_in}
use Rattle.search_plans.specs.declared.plan.Plan.{Plan}
use Rattle.search_plans.proofs.Equations.{in_plan-Scope, in_plan-Posting, in_plan-Range, in_plan-Union, in_plan-Inter}
use Rattle.search_plans.proofs.Gathered.{on_ok_weaker, gathers_all, gathers_scope, gathers_weaker, any_map, all_at}
use Rattle.search_plans.proofs.gathering.+gather.Goals as goal

pub push_walks-returns-in-Scope-clause-gathers : goal.push_walks-returns-in-Scope-clause-gathers
push_walks-returns-in-Scope-clause-gathers g t c =
    on_ok_weaker _ _
    (λ h. gathers_all _ c.args.scope.now _ _ _ h
    (λ n. ap (λ (p : Plan). is_in (g.K.PostingLists.lists c.args.kept.now) c.args.scope.now p n) c.in-Scope.is
    ∙ in_plan-Scope _ _ _))
    c.push_scope.result c.push_scope.ensures.gathers

pub push_walks-returns-in-Posting-clause-gathers : goal.push_walks-returns-in-Posting-clause-gathers
push_walks-returns-in-Posting-clause-gathers g t c =
    let found = rw c.numbers.ensures at c.push_set.ensures.gathers in
    on_ok_weaker _ _
    (λ h. gathers_all _ c.args.scope.now _ _ _ h
    (λ n. ap (λ (p : Plan). is_in (g.K.PostingLists.lists c.args.kept.now) c.args.scope.now p n) c.in-Posting.is
    ∙ in_plan-Posting _ _ _ c.in-Posting.posting))
    c.push_set.result found

pub push_walks-returns-in-Range-clause-gathers : goal.push_walks-returns-in-Range-clause-gathers
push_walks-returns-in-Range-clause-gathers g t c =
    on_ok_weaker _ _
    (λ h. gathers_all _ c.args.scope.now _ _ _ h
    (λ n. ap (λ (p : Plan). is_in (g.K.PostingLists.lists c.args.kept.now) c.args.scope.now p n) c.in-Range.is
    ∙ in_plan-Range _ _ _ c.in-Range.range))
    c.push_range.result c.push_range.ensures.gathers

pub push_walks-returns-in-Union-clause-gathers : goal.push_walks-returns-in-Union-clause-gathers
push_walks-returns-in-Union-clause-gathers g t c =
    let found = rw c.deref.ensures.value at c.push_each.ensures.gathers in
    on_ok_weaker _ _
    (λ h. gathers_weaker _ _ c.args.scope.now _ _
    (λ n k. sym (ap (λ (p : Plan). is_in (g.K.PostingLists.lists c.args.kept.now) c.args.scope.now p n) c.in-Union.is
    ∙ in_plan-Union _ _ _ c.in-Union.plans ∙ any_map _ _ c.in-Union.plans.items) ∙ k) h)
    c.push_each.result found

pub push_walks-returns-in-Inter-clause-gathers : goal.push_walks-returns-in-Inter-clause-gathers
push_walks-returns-in-Inter-clause-gathers g t c =
    let found = rw c.deref-in-Inter.ensures.value at c.push_one.ensures.gathers in
    on_ok_weaker _ _
    (λ h. gathers_weaker _ _ c.args.scope.now _ _
    (λ n k. sym (ap (λ (p : Plan). is_in (g.K.PostingLists.lists c.args.kept.now) c.args.scope.now p n) c.in-Inter.is
    ∙ in_plan-Inter _ _ _ c.in-Inter.plans ∙ list_all-map _ _ c.in-Inter.plans.items) ∙ k) h)
    c.push_one.result found

pub push_one-returns-then-i-best-clause-gathers : goal.push_one-returns-then-i-best-clause-gathers
push_one-returns-then-i-best-clause-gathers g t c =
    let found = rw c.loop-i.invariant at c.push_walks.ensures.gathers in
    on_ok_weaker _ _
    (λ h. gathers_weaker _ _ c.args.scope.now _ _
    (λ n k. ap (λ (p : Plan). is_in (g.K.PostingLists.lists c.args.kept.now) c.args.scope.now p n) c.index-plans-i.is
    ∙ all_at (λ (p : Plan). is_in (g.K.PostingLists.lists c.args.kept.now) c.args.scope.now p n) c.args.plans.now
    c.loop-i.i c.index-plans-i.result c.loop-i-test.true k) h)
    c.push_walks.result found

pub push_one-returns-clause-gathers : goal.push_one-returns-clause-gathers
push_one-returns-clause-gathers g t c =
    let found = rw c.loop-i.invariant at c.push_scope.ensures.gathers in
    on_ok_weaker _ _ (λ h. gathers_scope _ c.args.scope.now _ _ h) c.push_scope.result found

pub push_one-returns-then-i-best-clause-rising : goal.push_one-returns-then-i-best-clause-rising
push_one-returns-then-i-best-clause-rising g t c = rw c.loop-i.invariant at c.push_walks.ensures.rising
