-- What search doesn't prove of `start`: the clause `restarted`, step by step.
use Rattle.node_gate.proofs.opening.start.Goals as goal

pub returns-else-is_fresh-clause-restarted : goal.returns-else-is_fresh-clause-restarted
returns-else-is_fresh-clause-restarted g c = λ j later is. c.start_again.ensures.restarted j is
