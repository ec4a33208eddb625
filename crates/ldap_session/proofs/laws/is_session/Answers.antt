-- What search doesn't prove of `is_session`: what it returns, by lemmas of `Conversed`.
use Rattle.ldap_session.proofs.Conversed.{one_session}
use Rattle.ldap_session.proofs.laws.is_session.Goals as goal

pub returns : goal.returns
returns g c = one_session g.D.Directory.allows
