-- The goals of `one_filter` that no tactic closes, each by one lemma over plain lists.
use Rattle.ldap_filter.proofs.Unique.{one}
use Rattle.ldap_filter.proofs.reading.one_filter.Goals as goal

pub returns : goal.returns
returns c = one
