-- What search doesn't prove of `lacks_are_found`: the clause `lasting` and the clause `short`, by lemmas of `Lacking`.
use Rattle.replica_clock.proofs.Lacking.{lasting, short}
use Rattle.replica_clock.proofs.lack.lacks_are_found.Goals as goal

pub returns-clause-lasting : goal.returns-clause-lasting
returns-clause-lasting c = lasting

pub returns-clause-short : goal.returns-clause-short
returns-clause-short c = short
