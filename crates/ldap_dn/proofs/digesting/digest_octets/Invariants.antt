use Rattle.std.proofs.Common.{◌≡◌, drop}
use Rattle.ldap_dn.specs.Digests.{digest_on}
use Rattle.ldap_dn.proofs.digesting.digest_octets.Given as goal

abbrev pub invariant-loop-octet : goal.invariant-loop-octet
invariant-loop-octet l = digest_on l.digest (drop l.octet-index l.octets) ≡ digest_on l.fn.start l.fn.octets
