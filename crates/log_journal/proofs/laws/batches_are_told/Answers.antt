-- What search doesn't prove of `batches_are_told`: what it returns, by lemmas of `ToldOn`.
use Rattle.log_journal.proofs.ToldOn.{batches_told}
use Rattle.log_journal.proofs.laws.batches_are_told.Goals as goal

pub returns : goal.returns
returns c = batches_told c.each_step.ensures.batched
