-- What search doesn't prove of `long_messages_are_awaited`: the clause `comes`, the clause `taken` and the clause
-- `longer`, by lemmas of `LongMessages`.
use Rattle.replica_clock.proofs.LongMessages.{comes, taken, longer}
use Rattle.replica_clock.proofs.laws.long_messages_are_awaited.Goals as goal

pub returns-clause-comes : goal.returns-clause-comes
returns-clause-comes c = comes

pub returns-clause-taken : goal.returns-clause-taken
returns-clause-taken c = taken

pub returns-clause-longer : goal.returns-clause-longer
returns-clause-longer c = longer
