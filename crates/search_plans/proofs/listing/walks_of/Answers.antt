-- What search doesn't prove of `walks_of`: the clause `exact`, by lemmas of `Listed` and `Rising`.
use Rattle.std.proofs.Common.{ap, ◌∙◌}
use Rattle.std.specs.List.{list_any}
use Rattle.dir_index.specs.Postings.{has_number}
use Rattle.search_plans.proofs.Listed.{each_done}
use Rattle.search_plans.proofs.Rising.{any_map}
use Rattle.search_plans.proofs.listing.walks_of.Goals as goal

pub returns-clause-exact : goal.returns-clause-exact
returns-clause-exact c = λ n.
    ap (list_any (has_number n)) (each_done (λ s. s.now) c.loop-set.walks.items c.args.sets.now c.loop-set.set-index
    c.loop-set-test.false c.loop-set.invariant.same)
    ∙ any_map (has_number n) (λ s. s.now) c.args.sets.now
