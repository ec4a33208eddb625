-- What search doesn't prove of `told_goes_on`: what it returns, by lemmas of `ToldOn`.
use Rattle.log_journal.proofs.ToldOn.{goes_on}
use Rattle.log_journal.proofs.laws.told_goes_on.Goals as goal

pub returns : goal.returns
returns c = goes_on
