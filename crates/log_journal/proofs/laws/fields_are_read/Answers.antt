-- What search doesn't prove of `fields_are_read`: what it returns, by lemmas of `Reading`.
use Rattle.log_journal.proofs.Reading.{fields_read}
use Rattle.log_journal.proofs.laws.fields_are_read.Goals as goal

pub returns : goal.returns
returns c = fields_read
