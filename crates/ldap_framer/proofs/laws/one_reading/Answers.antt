-- The law `one_reading`, by its lemma.
use Rattle.ldap_framer.proofs.OneReading.{one_reading}
use Rattle.ldap_framer.proofs.laws.one_reading.Goals as goal

pub returns : goal.returns
returns c = one_reading
