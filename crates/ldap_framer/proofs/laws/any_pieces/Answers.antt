-- The law `any_pieces`, by its lemma.
use Rattle.ldap_framer.proofs.Frames.{goes_on}
use Rattle.ldap_framer.proofs.laws.any_pieces.Goals as goal

pub returns : goal.returns
returns c = goes_on
