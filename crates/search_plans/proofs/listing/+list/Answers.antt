-- What search doesn't prove of `+list`: the clause `same`, the clause `exact` and `push_each_listed-loop-i-preserved`,
-- by lemmas of `Listed`.
use Rattle.std.proofs.Common.{◌||◌, Bool, sym, ap, ap₂, ◌∙◌, arith}
use Rattle.std.specs.List.{list_any}
use Rattle.search_plans.specs.Sets.{is_in}
use Rattle.search_plans.specs.private.Sets.{is_listed}
use Rattle.search_plans.proofs.Listed.{union_is, same_weaker, any_more, any_done, exact_more}
use Rattle.search_plans.proofs.listing.+list.Goals as goal

pub push_listed-returns-in-Union-Union-clause-same : goal.push_listed-returns-in-Union-Union-clause-same
push_listed-returns-in-Union-Union-clause-same t c =
    let found = rw (c.deref.ensures.value, c.deref-in-Union-Union.ensures.value) at c.push_each_listed.ensures.same in
    same_weaker _ _
    (λ h lists scope n. union_is lists scope c.args.one.now c.in-Union-Union.plans c.in-Union-Union.is-0 n
    ∙ h lists scope n ∙ sym (union_is lists scope c.args.other.now c.in-Union-Union.others c.in-Union-Union.is-1 n))
    c.push_each_listed.result found

pub push_listed-returns-in-Union-Union-clause-exact : goal.push_listed-returns-in-Union-Union-clause-exact
push_listed-returns-in-Union-Union-clause-exact t c =
    let found = rw c.deref.ensures.value at c.push_each_listed.ensures.exact in
    same_weaker _ _
    (λ h lists scope n. h lists scope n
    ∙ ap (λ (b : Bool). list_any (λ p. is_listed lists n p.now) c.args.into.now.items || b)
    (sym (union_is lists scope c.args.one.now c.in-Union-Union.plans c.in-Union-Union.is-0 n)))
    c.push_each_listed.result found

pub push_each_listed-loop-i-preserved : goal.push_each_listed-loop-i-preserved
push_each_listed-loop-i-preserved t c =
    record {
      same = λ lists scope n.
          any_more (λ p. is_in lists scope p n) c.args.plans.now c.loop-i.i c.index-plans-i.result (omega arith)
          c.index-plans-i.is
          ∙ ap₂ ◌||◌ (c.loop-i.invariant.same lists scope n) (c.in_ok-push_listed.ensures.same c.if-not-branch.false
          lists scope n)
          ∙ sym (any_more (λ p. is_in lists scope p n) c.args.others.now c.loop-i.i c.index-others-i.result
          (omega arith) c.index-others-i.is);
      exact = λ lists scope n.
          exact_more (λ p. is_in lists scope p n) c.args.plans.now c.loop-i.i c.index-plans-i.result _ _ _
          (omega arith) c.index-plans-i.is (c.loop-i.invariant.exact lists scope n)
          (c.in_ok-push_listed.ensures.exact c.if-not-branch.false lists scope n);
    }

pub push_each_listed-returns-clause-same : goal.push_each_listed-returns-clause-same
push_each_listed-returns-clause-same t c = λ e lists scope n.
    sym (any_done (λ p. is_in lists scope p n) c.args.plans.now c.loop-i.i (omega arith)) ∙ c.loop-i.invariant.same
    lists scope n
    ∙ any_done (λ p. is_in lists scope p n) c.args.others.now c.loop-i.i (omega arith)

pub push_each_listed-returns-clause-exact : goal.push_each_listed-returns-clause-exact
push_each_listed-returns-clause-exact t c = λ e lists scope n.
    c.loop-i.invariant.exact lists scope n
    ∙ ap (λ (b : Bool). list_any (λ p. is_listed lists n p.now) c.args.into.now.items || b)
    (any_done (λ p. is_in lists scope p n) c.args.plans.now c.loop-i.i (omega arith))
