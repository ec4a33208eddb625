-- What search doesn't prove of `who_is_refused`: the clause `forward` and the clause `cause`, by lemmas of
-- `Remembering`.
use Rattle.peer_link.proofs.Remembering.{forward_is_taken, refusals_have_cause}
use Rattle.peer_link.proofs.laws.who_is_refused.Goals as goal

pub returns-clause-forward : goal.returns-clause-forward
returns-clause-forward c = forward_is_taken

pub returns-clause-cause : goal.returns-clause-cause
returns-clause-cause c = refusals_have_cause
