-- Frames: what is written of a message that can be spelled is a frame of it; one that can't has none.
use Rattle.std.proofs.Common.{subst}
use Rattle.view_store.specs.Cluster.{IsCluster}
use Rattle.vr_wire.proofs.Fit.{frame_made, message_can}
use Rattle.vr_wire.proofs.writing.write.Goals as goal

pub returns-then-not-message_fits-clause-refused : goal.returns-then-not-message_fits-clause-refused
returns-then-not-message_fits-clause-refused c = λ h.
    c.message_fits.ensures.lacks c.if-not-message_fits.true (message_can c.args.message.now h.range h.updates)

pub returns-clause-frame : goal.returns-clause-frame
returns-clause-frame c =
    let a = c.args in
    frame_made a.cluster a.sender a.message.now c.write_frame.result
    (subst IsCluster c.number.ensures.same c.number.ensures.fits)
    (c.message_fits.ensures.fits c.if-not-message_fits.false) c.write_frame.ensures.spelled c.write_frame.ensures.small
