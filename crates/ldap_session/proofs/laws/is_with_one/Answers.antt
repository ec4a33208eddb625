-- What search doesn't prove of `is_with_one`: what it returns, by lemmas of `Conversed`.
use Rattle.ldap_session.proofs.Conversed.{with_one}
use Rattle.ldap_session.proofs.laws.is_with_one.Goals as goal

pub returns : goal.returns
returns g c = with_one g.D.Directory.allows
