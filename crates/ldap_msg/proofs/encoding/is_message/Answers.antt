-- The goals of `is_message` that no tactic closes, each by one lemma over plain lists.
use Rattle.ldap_msg.proofs.Spelled.{is_message}
use Rattle.ldap_msg.proofs.encoding.is_message.Goals as goal

pub returns : goal.returns
returns c = is_message
