use Rattle.std.proofs.Common.{◌≡◌, ◌++◌, drop, length}
use Rattle.ldap_dn.specs.NameKeys.{listed, itself}
use Rattle.ldap_dn.proofs.keying.put_octets.Given as goal

abbrev pub invariant-loop-octet : goal.invariant-loop-octet
invariant-loop-octet l =
    (l.out.items ++ listed itself (drop l.octet-index l.octets) ≡ l.initial.out.items ++ listed itself l.octets)
    × (l.out.items ≡ l.initial.out.items ++ drop (length l.initial.out.items) l.out.items)
