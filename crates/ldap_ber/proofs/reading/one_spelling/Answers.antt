-- The goals of `one_spelling` that no tactic closes, each by one lemma over plain lists.
use Rattle.ldap_ber.proofs.ElementLemmas.{one}
use Rattle.ldap_ber.proofs.reading.one_spelling.Goals as goal

pub returns : goal.returns
returns c = one
