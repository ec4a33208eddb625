-- What search doesn't prove of `read_op`: the clause `only`, step by step.
use Rattle.std.proofs.Common.{◌∙◌}
use Rattle.ldap_op.proofs.reading.read_op.Goals as goal

pub returns-clause-only : goal.returns-clause-only
returns-clause-only c = λ op h. c.in_ok-op.ensures ∙ c.in_ok-update.ensures.only op h
