-- What search doesn't prove of `entry_in`: the clause `damaged`, step by step.
use Rattle.std.proofs.Common.{rules}
use Rattle.log_journal.proofs.telling.entry_in.Goals as goal

pub returns-in_err-payload-clause-damaged : goal.returns-in_err-payload-clause-damaged
returns-in_err-payload-clause-damaged c = λ is kind first e home h. c.in_err-payload.ensures.damaged (search rules)
    e.payload h.update
