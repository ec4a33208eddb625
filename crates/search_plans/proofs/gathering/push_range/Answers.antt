-- What search doesn't prove of `push_range`: the clause `gathers`, by lemmas of `Gathered`.
use Rattle.std.proofs.Common.{◌∙◌, ap}
use Rattle.dir_index.specs.Postings.{has_number}
use Rattle.search_plans.proofs.Gathered.{on_ok_weaker, gathers_same}
use Rattle.search_plans.proofs.gathering.push_range.Goals as goal

pub returns-clause-gathers : goal.returns-clause-gathers
returns-clause-gathers g c =
    on_ok_weaker _ _
    (λ h. gathers_same _ _ _ _ (λ n. ap (has_number n) c.of_gathered.ensures ∙ c.in_ok-numbers.ensures.same n) h)
    c.push_walk.result c.push_walk.ensures.gathers
