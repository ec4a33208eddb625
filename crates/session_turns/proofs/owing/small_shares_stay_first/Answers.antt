-- What search doesn't prove of `small_shares_stay_first`: what it returns, by lemmas of `Owed`.
use Rattle.session_turns.proofs.Owed.{law}
use Rattle.session_turns.proofs.owing.small_shares_stay_first.Goals as goal

pub returns : goal.returns
returns c = law
