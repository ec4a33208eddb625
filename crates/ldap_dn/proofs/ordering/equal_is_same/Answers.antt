-- What search doesn't prove of `equal_is_same`: what it returns, step by step.
use Rattle.std.proofs.Common.{sym}
use Rattle.ldap_dn.specs.OrderLaws.{rdn_ties}
use Rattle.ldap_dn.proofs.ordering.equal_is_same.Goals as goal

pub returns : goal.returns
returns c = λ a b. sym (rdn_ties a b)
