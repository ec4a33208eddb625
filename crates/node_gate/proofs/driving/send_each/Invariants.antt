use Rattle.std.proofs.Common.{◌≡◌, ◌+◌, ◌≤◌, length}
use Rattle.node_gate.specs.Batches.{left_out, sends_of}
use Rattle.node_gate.specs.Sent.{TakesAll}
use Rattle.node_gate.proofs.driving.send_each.Given as goal

-- whatever takes what is left takes all; so many were left out before, and no more than there were
abbrev pub invariant-loop-given : goal.invariant-loop-given
invariant-loop-given g l = ((after : g.row.P.Denot) → TakesAll g.P.Peers.takes l.peers
    (sends_of l.given-iterator.rest.items) after → TakesAll g.P.Peers.takes l.fn.peers (sends_of l.fn.outputs.items)
    after)
    × (l.left_out + left_out l.given-iterator.rest.items ≡ left_out l.fn.outputs.items)
    × (l.left_out + length l.given-iterator.rest.items ≤ length l.fn.outputs.items)
