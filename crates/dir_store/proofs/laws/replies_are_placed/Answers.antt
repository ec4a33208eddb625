-- What search doesn't prove of `replies_are_placed`: the clause `placed` and the clause `join`, by lemmas of `Placed`.
use Rattle.dir_store.proofs.Placed.{placed, places_join}
use Rattle.dir_store.proofs.laws.replies_are_placed.Goals as goal

pub returns-clause-placed : goal.returns-clause-placed
returns-clause-placed c = placed

pub returns-clause-join : goal.returns-clause-join
returns-clause-join c = places_join
