-- What search doesn't prove of `one_is_told`: what it returns, by lemmas of `OneTold`.
use Rattle.log_journal.proofs.OneTold.{one_told}
use Rattle.log_journal.proofs.laws.one_is_told.Goals as goal

pub returns : goal.returns
returns c = one_told c.one_op.ensures
