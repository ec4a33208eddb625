-- What search doesn't prove of `conversation_listens`: what it returns, by lemmas of `Conversed`.
use Rattle.ldap_session.proofs.Conversed.{listens}
use Rattle.ldap_session.proofs.laws.conversation_listens.Goals as goal

pub returns : goal.returns
returns g c = listens g.D.Directory.allows
