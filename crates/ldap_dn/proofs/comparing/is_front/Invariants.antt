use Rattle.std.proofs.Common.{◌≡◌, drop}
use Rattle.ldap_dn.specs.Names.{is_front}
use Rattle.ldap_dn.proofs.comparing.is_front.Given as goal

abbrev pub invariant-loop-rdn : goal.invariant-loop-rdn
invariant-loop-rdn l = is_front (drop l.rdn-index l.front) l.rest ≡ is_front l.fn.front l.fn.whole
