-- Frames: the law `one_frame`, by its lemma.
use Rattle.vr_wire.proofs.OneFrame.{one_frame}
use Rattle.vr_wire.proofs.laws.one_frame.Goals as goal

pub returns : goal.returns
returns c = one_frame c.one_op.ensures
