-- What search doesn't prove of `role_is_first`: what it returns, by lemmas of `Joining`.
use Rattle.session_handler.proofs.Joining.{role_first}
use Rattle.session_handler.proofs.laws.role_is_first.Goals as goal

pub returns : goal.returns
returns g c = role_first _
