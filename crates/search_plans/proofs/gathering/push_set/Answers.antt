-- What search doesn't prove of `push_set`: the clause `gathers`, step by step.
use Rattle.search_plans.proofs.gathering.push_set.Goals as goal

pub returns-clause-gathers : goal.returns-clause-gathers
returns-clause-gathers c = rw c.of_set.ensures at c.push_walk.ensures.gathers
