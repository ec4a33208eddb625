use Rattle.std.proofs.Common.{◌≡◌, drop}
use Rattle.ldap_dn.specs.Names.{are_same_keys}
use Rattle.ldap_dn.proofs.comparing.are_same_keys.Given as goal

abbrev pub invariant-loop-key : goal.invariant-loop-key
invariant-loop-key l = are_same_keys (drop l.key-index l.a) l.rest ≡ are_same_keys l.fn.a l.fn.b
