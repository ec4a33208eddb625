-- What search doesn't prove of `one_update_a_message`: what it returns, by lemmas of `Counted`.
use Rattle.ldap_session.proofs.Counted.{one_update_a_message}
use Rattle.ldap_session.proofs.laws.one_update_a_message.Goals as goal

pub returns : goal.returns
returns g c = one_update_a_message _
