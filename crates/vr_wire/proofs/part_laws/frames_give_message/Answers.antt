-- Frames: the law `frames_give_message`, by its lemma.
use Rattle.vr_wire.proofs.FramesGive.{frames_give}
use Rattle.vr_wire.proofs.part_laws.frames_give_message.Goals as goal

pub returns : goal.returns
returns c = frames_give c.one_op.ensures
