-- What search doesn't prove of `conversation_speaks`: what it returns, by lemmas of `Conversed`.
use Rattle.ldap_session.proofs.Conversed.{speaks}
use Rattle.ldap_session.proofs.laws.conversation_speaks.Goals as goal

pub returns : goal.returns
returns g c = speaks g.D.Directory.allows
