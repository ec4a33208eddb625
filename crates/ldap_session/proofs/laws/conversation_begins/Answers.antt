-- What search doesn't prove of `conversation_begins`: what it returns, by lemmas of `Conversed`.
use Rattle.ldap_session.proofs.Conversed.{begins}
use Rattle.ldap_session.proofs.laws.conversation_begins.Goals as goal

pub returns : goal.returns
returns g c = begins g.D.Directory.allows
