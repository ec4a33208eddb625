-- What search doesn't prove of `first_ones_are_taken_soon`: what it returns, by lemmas of `Taken`.
use Rattle.session_turns.proofs.Taken.{first_law}
use Rattle.session_turns.proofs.turns.first_ones_are_taken_soon.Goals as goal

pub returns : goal.returns
returns c = first_law
