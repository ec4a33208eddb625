-- What search doesn't prove of `draw_sided`: the clause `covers`, the clause `rising` and the clause `sure`, by lemmas
-- of `Together`.
use Rattle.std.proofs.Common.{sym, ap, subst, ◌∙◌}
use Rattle.dir_index.specs.Postings.{has_number, IsRising}
use Rattle.search_plans.proofs.Together.{has_together, together_rising}
use Rattle.search_plans.proofs.gathering.draw_sided.Goals as goal

pub returns-then-is_cheap_listed-clause-covers : goal.returns-then-is_cheap_listed-clause-covers
returns-then-is_cheap_listed-clause-covers g c = λ n s h.
    let exact = rw c.in-Some.is at c.in_ok-listed.ensures.exact in
    ap (has_number n) c.from_lists.ensures.stream ∙ has_together n c.in-Some.listed.walks.items
    ∙ exact c.args.scope.now n ∙ h

pub returns-then-is_cheap_listed-clause-rising : goal.returns-then-is_cheap_listed-clause-rising
returns-then-is_cheap_listed-clause-rising g c = subst IsRising (sym c.from_lists.ensures.stream)
    (together_rising c.in-Some.listed.walks.items)

pub returns-then-is_cheap_listed-clause-sure : goal.returns-then-is_cheap_listed-clause-sure
returns-then-is_cheap_listed-clause-sure g c = λ known n h.
    let same = rw c.in-Some.is at c.in_ok-listed.ensures.same in
    let exact = rw c.in-Some.is at c.in_ok-listed.ensures.exact in
    sym (same c.args.scope.now n)
    ∙ sym (ap (has_number n) c.from_lists.ensures.stream ∙ has_together n c.in-Some.listed.walks.items
    ∙ exact c.args.scope.now n) ∙ h
