-- The goals of `one_message` that no tactic closes, each by one lemma over plain lists.
use Rattle.ldap_msg.proofs.Unique.{one}
use Rattle.ldap_msg.proofs.decoding.one_message.Goals as goal

pub returns : goal.returns
returns c = one
