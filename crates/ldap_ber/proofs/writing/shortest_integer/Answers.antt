-- The goals of `shortest_integer` that no tactic closes, each by one lemma over plain lists.
use Rattle.ldap_ber.proofs.Digits.{is_content}
use Rattle.ldap_ber.proofs.writing.shortest_integer.Goals as goal

pub returns : goal.returns
returns c = is_content
