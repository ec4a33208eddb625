-- What search doesn't prove of `printed_is_read`: what it returns, by lemmas of `PrintedAgain`.
use Rattle.schema_laws.proofs.PrintedAgain.{printed_read}
use Rattle.schema_laws.proofs.naming.printed_is_read.Goals as goal

pub returns : goal.returns
returns c = printed_read
