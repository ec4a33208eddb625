-- What search doesn't prove of `who_rests_is_watched`: what it returns, by lemmas of `Watched`.
use Rattle.session_turns.proofs.Watched.{law}
use Rattle.session_turns.proofs.resting.who_rests_is_watched.Goals as goal

pub returns : goal.returns
returns c = law
