-- What search doesn't prove of `from_plan`: the clause `covers` and the clause `rising`, by lemmas of `Together`.
use Rattle.std.proofs.Common.{◌∙◌, ap, sym, subst}
use Rattle.dir_index.specs.Postings.{has_number, IsRising}
use Rattle.search_plans.proofs.Together.{has_together, together_rising}
use Rattle.search_plans.proofs.gathering.from_plan.Goals as goal

pub returns-clause-covers : goal.returns-clause-covers
returns-clause-covers g c = λ n s h.
    ap (has_number n) c.new.ensures ∙ has_together n c.push_walks.new.into.items
    ∙ c.in_ok-push_walks.ensures.gathers.covers n s h

pub returns-clause-rising : goal.returns-clause-rising
returns-clause-rising g c = subst IsRising (sym c.new.ensures) (together_rising c.push_walks.new.into.items)
