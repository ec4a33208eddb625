use Rattle.std.proofs.Common.{◌≡◌, ◌++◌, drop}
use Rattle.ldap_dn.proofs.rdn.copy_list.Given as goal

abbrev pub invariant-loop-written : goal.invariant-loop-written
invariant-loop-written l = l.copy.items ++ drop l.written-index l.list ≡ l.list
