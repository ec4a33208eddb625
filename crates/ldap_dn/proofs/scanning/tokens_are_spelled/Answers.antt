-- What search doesn't prove of `tokens_are_spelled`: what it returns, by lemmas of `Spelled`.
use Rattle.ldap_dn.proofs.Spelled.{tokens_spelled}
use Rattle.ldap_dn.proofs.scanning.tokens_are_spelled.Goals as goal

pub returns : goal.returns
returns c = tokens_spelled
