use Rattle.std.proofs.Common.{◌≡◌, drop}
use Rattle.ldap_dn.specs.Digests.{digest_with, digest_of}
use Rattle.ldap_dn.proofs.rdn.Rdn.digest.Given as goal

abbrev pub invariant-loop-key : goal.invariant-loop-key
invariant-loop-key l = digest_with l.digest (drop l.key-index l.key-items) ≡ digest_of l.fn.self.keys
