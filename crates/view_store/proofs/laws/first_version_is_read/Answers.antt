-- What search doesn't prove of `first_version_is_read`: what it returns, by lemmas of `SlotLemmas`.
use Rattle.view_store.proofs.SlotLemmas.{first_version_slot}
use Rattle.view_store.proofs.laws.first_version_is_read.Goals as goal

pub returns : goal.returns
returns c = first_version_slot
