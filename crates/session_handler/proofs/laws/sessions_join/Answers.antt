-- What search doesn't prove of `sessions_join`: what it returns, by lemmas of `Joining`.
use Rattle.session_handler.proofs.Joining.{join}
use Rattle.session_handler.proofs.laws.sessions_join.Goals as goal

pub returns : goal.returns
returns g c = join _
