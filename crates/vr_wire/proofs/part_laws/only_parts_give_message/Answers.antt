-- Frames: the law `only_parts_give_message`, by its lemma.
use Rattle.vr_wire.proofs.Runs.{only_parts}
use Rattle.vr_wire.proofs.part_laws.only_parts_give_message.Goals as goal

pub returns : goal.returns
returns c = only_parts
