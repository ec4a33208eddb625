-- What search doesn't prove of `push_scope`: the clause `gathers`, step by step.
use Rattle.search_plans.proofs.gathering.push_scope.Goals as goal

pub returns-clause-gathers : goal.returns-clause-gathers
returns-clause-gathers c = rw c.walk.ensures at c.push_walk.ensures.gathers
