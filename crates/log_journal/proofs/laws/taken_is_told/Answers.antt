-- What search doesn't prove of `taken_is_told`: what it returns, by lemmas of `OfTaken`.
use Rattle.log_journal.proofs.OfTaken.{taken_told}
use Rattle.log_journal.proofs.laws.taken_is_told.Goals as goal

pub returns : goal.returns
returns c = taken_told c.batches_are_told.ensures
