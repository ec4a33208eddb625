-- Frames: the law `no_beginning`, by its lemma.
use Rattle.vr_wire.proofs.OneFrame.{no_beginning}
use Rattle.vr_wire.proofs.laws.no_beginning.Goals as goal

pub returns : goal.returns
returns c = no_beginning
