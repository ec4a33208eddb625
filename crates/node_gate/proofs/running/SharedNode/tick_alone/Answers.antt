use Rattle.node_gate.proofs.BeatSent.{beats_of}
use Rattle.node_gate.proofs.running.SharedNode.tick_alone.Goals as goal

-- what a beat has sent is what some beat sends
pub returns-clause-repeated : goal.returns-clause-repeated
returns-clause-repeated g c =
    let held = c.deref_mut-2.result.now in beats_of g.I.NodeIdentity.own held.published.node (λ v. v.items) _
    c.act-done.result.1 held.stays c.act-done.ensures.copied
