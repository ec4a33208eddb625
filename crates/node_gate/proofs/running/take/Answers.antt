-- What search doesn't prove of `take`: the clause `stepped`, by lemmas of `Sent`.
use Rattle.node_gate.proofs.Sent.{stepped}
use Rattle.node_gate.proofs.running.take.Goals as goal

pub returns-clause-stepped : goal.returns-clause-stepped
returns-clause-stepped g c = stepped g.P.Peers.takes _ _ _ _ _ _ _ c.in_ok-handled.ensures.handled
    c.send_outputs.ensures
