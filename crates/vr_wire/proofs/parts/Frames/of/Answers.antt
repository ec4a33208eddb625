-- Frames: the frames of a message that can be spelled tell it; one that can't isn't sent.
use Rattle.std.proofs.Common.{min, max, subst}
use Rattle.view_store.specs.Cluster.{IsCluster}
use Rattle.vr_wire.specs.Frames.{limit}
use Rattle.vr_wire.proofs.Fit.{frames_made, message_can}
use Rattle.vr_wire.proofs.parts.Frames.of.Goals as goal

pub returns-then-not-message_fits-clause-made : goal.returns-then-not-message_fits-clause-made
returns-then-not-message_fits-clause-made c = λ range updates.
    absurd (c.message_fits.ensures.lacks c.if-not-message_fits.true (message_can c.args.message.now range updates))

pub returns-clause-tell : goal.returns-clause-tell
returns-clause-tell c =
    let a = c.args in
    frames_made (min a.sizes.most limit) (max a.sizes.part_size 1) a.cluster a.sender a.number a.message.now
    c.frames_of.result (subst IsCluster c.number.ensures.same c.number.ensures.fits)
    (c.message_fits.ensures.fits c.if-not-message_fits.false) c.frames_of.ensures
