-- Frames: what is read is the message of the octets.
use Rattle.std.proofs.Common.{ℕ, List, arith}
use Rattle.std.proofs.lemmas.Result.{err_from_is_err_and}
use Rattle.vr_state.specs.declared.message.PeerMessage.{PeerMessage}
use Rattle.vr_wire.proofs.FrameLaws.{frame_read, frame_refused, payload_refused}
use Rattle.vr_wire.proofs.reading.read_any.Goals as goal

pub returns-in_err-cluster : goal.returns-in_err-cluster
returns-in_err-cluster c =
    let p = err_from_is_err_and c.from_residual.result c.from_residual.ensures.1 in
    rw (p.1, p.2) (frame_refused c.in_err-cluster.field-0.0 c.args.frame.now c.in_err-cluster.ensures)

pub returns-in_err-message : goal.returns-in_err-message
returns-in_err-message c =
    let p = err_from_is_err_and c.from_residual-in_err-message.result c.from_residual-in_err-message.ensures.1 in
    let raw : ℕ × (ℕ × PeerMessage (List ℕ)) =
    (c.in_ok-cluster.cluster, (c.in_ok-cluster.sender, c.in_ok-cluster.raw)) in
    rw (p.1, p.2) (payload_refused c.in_err-message.field-0.0 c.args.frame.now raw c.in_ok-cluster.ensures
    c.in_err-message.ensures)

pub returns : goal.returns
returns c =
    let raw : ℕ × (ℕ × PeerMessage (List ℕ)) =
    (c.in_ok-cluster.cluster, (c.in_ok-cluster.sender, c.in_ok-cluster.raw)) in
    frame_read c.args.frame.now raw c.in_ok-message.message (λ i. omega (arith, c.type_inv.frame i))
    c.in_ok-cluster.ensures c.in_ok-message.ensures
