-- What search doesn't prove of `commits_are_told_soon`: what it returns, by lemmas of `Commits`.
use Rattle.replica_clock.proofs.Commits.{told_soon}
use Rattle.replica_clock.proofs.laws.commits_are_told_soon.Goals as goal

pub returns : goal.returns
returns c = told_soon
