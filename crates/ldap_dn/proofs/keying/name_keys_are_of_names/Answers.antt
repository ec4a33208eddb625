-- What search doesn't prove of `name_keys_are_of_names`: what it returns, by lemmas of `KeysTold`.
use Rattle.ldap_dn.proofs.KeysTold.{keys_of_names}
use Rattle.ldap_dn.proofs.keying.name_keys_are_of_names.Goals as goal

pub returns : goal.returns
returns c = keys_of_names
