-- What search doesn't prove of `reads_rise`: what it returns, by lemmas of `Risen`.
use Rattle.session_handler.proofs.Risen.{reads_rise}
use Rattle.session_handler.proofs.laws.reads_rise.Goals as goal

pub returns : goal.returns
returns g c = reads_rise _
