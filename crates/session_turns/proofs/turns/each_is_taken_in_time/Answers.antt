-- What search doesn't prove of `each_is_taken_in_time`: what it returns, by lemmas of `Taken`.
use Rattle.session_turns.proofs.Taken.{each_law}
use Rattle.session_turns.proofs.turns.each_is_taken_in_time.Goals as goal

pub returns : goal.returns
returns c = each_law
