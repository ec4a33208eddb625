-- What search doesn't prove of `others_do_not_update`: what it returns, by lemmas of `Waits`.
use Rattle.session_handler.proofs.Waits.{others_make_none}
use Rattle.session_handler.proofs.laws.others_do_not_update.Goals as goal

pub returns : goal.returns
returns g c = others_make_none _
