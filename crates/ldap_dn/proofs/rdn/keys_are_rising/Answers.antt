-- What search doesn't prove of `keys_are_rising`: what it returns, by lemmas of `Rising`.
use Rattle.ldap_dn.proofs.Rising.{keys_rising}
use Rattle.ldap_dn.proofs.rdn.keys_are_rising.Goals as goal

pub returns : goal.returns
returns c = keys_rising
