-- Frames: the law `parts_give_message`, by its lemma.
use Rattle.vr_wire.proofs.Starts.{parts_give}
use Rattle.vr_wire.proofs.part_laws.parts_give_message.Goals as goal

pub returns : goal.returns
returns c = parts_give c.one_op.ensures
