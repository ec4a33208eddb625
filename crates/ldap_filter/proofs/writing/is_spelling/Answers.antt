-- The goals of `is_spelling` that no tactic closes, each by one lemma over plain lists.
use Rattle.ldap_filter.proofs.Spelled.{written}
use Rattle.ldap_filter.proofs.writing.is_spelling.Goals as goal

pub returns : goal.returns
returns c = written
