-- What search doesn't prove of `send_all`: `loop-send-preserved` and what it returns, step by step.
use Rattle.std.proofs.Common.{◌≡◌, arith, subst, sym, List, []}
use Rattle.std.proofs.lemmas.List.{nil_from_length}
use Rattle.dir_node.specs.dir_store.ldap_op.Values.{OpValue}
use Rattle.dir_node.specs.vr_state.declared.message.PeerMessage.{PeerMessage}
use Rattle.dir_node.specs.vr_state.declared.message.Send.{Send}
use Rattle.node_gate.specs.Sent.{TakesAll, none, next}
use Rattle.node_gate.proofs.peers.send_all.Goals as goal

pub loop-send-preserved : goal.loop-send-preserved
loop-send-preserved g c after t =
    c.loop-send.invariant after (subst (λ (l : List (Send OpValue)). TakesAll g.P.Peers.takes c.loop-send.peers l
    after) (sym c.in-Some.ensures.steps.0)
    (next c.in-Some.send
    (subst (λ (m : PeerMessage OpValue). g.P.Peers.takes c.loop-send.peers c.in-Some.send.to m c.send.new.self)
    c.into_message.ensures c.send.ensures) t))

pub returns : goal.returns
returns g c =
    let nothing : c.loop-send.send-iterator.rest.items ≡ [] = nil_from_length c.loop-send.send-iterator.rest.items
    (omega (arith, c.in-None.ensures.steps.0)) in
    c.loop-send.invariant c.loop-send.peers (subst (λ (l : List (Send OpValue)). TakesAll g.P.Peers.takes
    c.loop-send.peers l c.loop-send.peers) (sym nothing) none)
