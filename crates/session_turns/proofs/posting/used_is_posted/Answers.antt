-- What search doesn't prove of `used_is_posted`: what it returns, by lemmas of `Sums`.
use Rattle.session_turns.proofs.Sums.{law}
use Rattle.session_turns.proofs.posting.used_is_posted.Goals as goal

pub returns : goal.returns
returns c = law
