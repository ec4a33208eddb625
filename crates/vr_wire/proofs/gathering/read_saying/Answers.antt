-- Frames: the message that octets say is read, or there is none.
use Rattle.std.proofs.Common.{arith}
use Rattle.std.proofs.lemmas.Result.{err_from_is_err_and}
use Rattle.vr_wire.proofs.PartFrames.{saying_takes, saying_refused, saying_without}
use Rattle.vr_wire.proofs.gathering.read_saying.Goals as goal

pub returns-in_err-raw : goal.returns-in_err-raw
returns-in_err-raw c =
    let p = err_from_is_err_and c.from_residual.result c.from_residual.ensures.1 in
    rw (p.1, p.2) (saying_refused c.in_err-raw.field-0.0 c.args.octets.now c.in_err-raw.ensures)

pub returns-in_err-message : goal.returns-in_err-message
returns-in_err-message c =
    let p = err_from_is_err_and c.from_residual-in_err-message.result c.from_residual-in_err-message.ensures.1 in
    rw (p.1, p.2) (saying_without c.in_err-message.field-0.0 c.args.octets.now c.in_ok-raw.raw c.in_ok-raw.ensures
    c.in_err-message.ensures)

pub returns : goal.returns
returns c = saying_takes c.args.octets.now c.in_ok-raw.raw c.in_ok-message.message
    (λ i. omega (arith, c.type_inv.octets i)) c.in_ok-raw.ensures c.in_ok-message.ensures
