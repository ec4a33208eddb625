-- What search doesn't prove of `open`: the clause `made`, the clause `restarted` and the clause `executed`, by lemmas
-- of `Starts`.
use Rattle.node_gate.proofs.Starts.{executed_due, made_as, restarted_as}
use Rattle.node_gate.proofs.opening.open.Goals as goal

pub returns-clause-made : goal.returns-clause-made
returns-clause-made g c = λ plain. made_as _ _ _ _ _ _ c.new-published.ensures
    c.execute_due-is_behind.ensures.executed.nothing_else c.in_ok-node.ensures.nothing (c.in_ok-node.ensures.made plain)

pub returns-clause-restarted : goal.returns-clause-restarted
returns-clause-restarted g c =
    λ j later is. restarted_as _ _ _ _ _ _ _ c.new-published.ensures
    c.execute_due-is_behind.ensures.executed.nothing_else c.in_ok-node.ensures.nothing
    (c.in_ok-node.ensures.restarted j later is)

pub returns-clause-executed : goal.returns-clause-executed
returns-clause-executed g c = executed_due c.args.config _ _ _ _ _ c.new-published.ensures
    c.execute_due-is_behind.ensures.executed c.in_ok-node.ensures.nothing
