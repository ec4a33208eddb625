-- What search doesn't prove of `updates_join`: the clause `directories` and the clause `replies`, by lemmas of `Joins`.
use Rattle.dir_store.proofs.Joins.{after_join, replies_join}
use Rattle.dir_store.proofs.laws.updates_join.Goals as goal

pub returns-clause-directories : goal.returns-clause-directories
returns-clause-directories c = after_join

pub returns-clause-replies : goal.returns-clause-replies
returns-clause-replies c = replies_join
