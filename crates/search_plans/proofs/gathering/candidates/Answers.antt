-- What search doesn't prove of `candidates`: the clause `draws`, by lemmas of `Rising`.
use Rattle.search_plans.proofs.Rising.{drawn}
use Rattle.search_plans.proofs.gathering.candidates.Goals as goal

pub returns-clause-draws : goal.returns-clause-draws
returns-clause-draws g c = drawn _ c.args.scope.now _ c.rises.ensures c.in_ok-drawn.ensures.rising
    c.in_ok-drawn.ensures.covers
