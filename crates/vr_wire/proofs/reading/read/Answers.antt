-- Frames: whose frame it is.
use Rattle.std.proofs.lemmas.Result.{err_from_is_err_and}
use Rattle.vr_wire.proofs.FrameLaws.{refused_so}
use Rattle.vr_wire.proofs.reading.read.Goals as goal

pub returns-in_err-other : goal.returns-in_err-other
returns-in_err-other c =
    let p = err_from_is_err_and c.from_residual.result c.from_residual.ensures.1 in
    rw (p.1, p.2) (refused_so c.args.cluster c.in_err-other.field-0.0 c.args.frame.now c.in_err-other.ensures)
