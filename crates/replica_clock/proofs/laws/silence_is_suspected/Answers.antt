-- What search doesn't prove of `silence_is_suspected`: the clause `silent` and the clause `heard`, by lemmas of
-- `Trust`.
use Rattle.replica_clock.proofs.Trust.{suspected, trusted}
use Rattle.replica_clock.proofs.laws.silence_is_suspected.Goals as goal

pub returns-clause-silent : goal.returns-clause-silent
returns-clause-silent c = suspected

pub returns-clause-heard : goal.returns-clause-heard
returns-clause-heard c = trusted
