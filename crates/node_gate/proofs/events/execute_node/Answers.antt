use Rattle.node_gate.proofs.Given.{grown}
use Rattle.node_gate.proofs.events.execute_node.Goals as goal

-- what is executed is put at the end
pub returns-clause-begins : goal.returns-clause-begins
returns-clause-begins g c = grown _ _ c.execute_due.result _ c.execute_due.ensures.executed
    c.execute_due.ensures.same.schema c.execute_due.ensures.same.suffix c.execute_due.ensures.same.indexes
