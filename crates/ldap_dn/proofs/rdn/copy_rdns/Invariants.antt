use Rattle.std.proofs.Common.{◌≡◌, ◌++◌, drop}
use Rattle.ldap_dn.proofs.rdn.copy_rdns.Given as goal

abbrev pub invariant-loop-rdn : goal.invariant-loop-rdn
invariant-loop-rdn l = l.copy.items ++ drop l.rdn-index l.rdns ≡ l.rdns
