-- Frames: the law `is_saying`, by its lemma.
use Rattle.vr_wire.proofs.Runs.{is_saying}
use Rattle.vr_wire.proofs.part_laws.is_saying.Goals as goal

pub returns : goal.returns
returns c = is_saying c.is_op.ensures
