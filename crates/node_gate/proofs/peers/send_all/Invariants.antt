use Rattle.node_gate.specs.Sent.{TakesAll}
use Rattle.node_gate.proofs.peers.send_all.Given as goal

-- whatever takes what is left takes all
abbrev pub invariant-loop-send : goal.invariant-loop-send
invariant-loop-send g l = (after : g.row.P.Denot) → TakesAll g.P.Peers.takes l.peers l.send-iterator.rest.items
    after → TakesAll g.P.Peers.takes l.fn.peers l.fn.sends.items after
