-- Frames: the law `is_frame`, by its lemma.
use Rattle.vr_wire.proofs.OneFrame.{is_frame}
use Rattle.vr_wire.proofs.laws.is_frame.Goals as goal

pub returns : goal.returns
returns c = is_frame c.is_op.ensures
