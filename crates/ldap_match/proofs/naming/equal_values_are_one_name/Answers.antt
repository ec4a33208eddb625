-- What search doesn't prove of `equal_values_are_one_name`: what it returns, by lemmas of `Named`.
use Rattle.ldap_match.proofs.Named.{equal_values}
use Rattle.ldap_match.proofs.naming.equal_values_are_one_name.Goals as goal

pub returns : goal.returns
returns c = equal_values
