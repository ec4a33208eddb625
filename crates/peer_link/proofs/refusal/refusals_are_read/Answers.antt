-- What search doesn't prove of `refusals_are_read`: what it returns, by lemmas of `Spelling`.
use Rattle.peer_link.proofs.Spelling.{refusals_read}
use Rattle.peer_link.proofs.refusal.refusals_are_read.Goals as goal

pub returns : goal.returns
returns c = refusals_read
