-- What search doesn't prove of `claims_are_read`: what it returns, by lemmas of `Spelling`.
use Rattle.peer_link.proofs.Spelling.{claims_read}
use Rattle.peer_link.proofs.laws.claims_are_read.Goals as goal

pub returns : goal.returns
returns c = claims_read
