use Rattle.std.proofs.Common.{◌≡◌, ◌++◌, drop, map, length}
use Rattle.ldap_dn.specs.NameKeys.{listed, pair_octets}
use Rattle.ldap_dn.proofs.keying.put_rdns.Given as goal

abbrev pub invariant-loop-rdn : goal.invariant-loop-rdn
invariant-loop-rdn l =
    (l.out.items ++ listed (listed pair_octets) (map (λ r. r.keys) (drop l.rdn-index l.rdns)) ≡
    l.initial.out.items ++ listed (listed pair_octets) (map (λ r. r.keys) l.rdns))
    × (l.out.items ≡ l.initial.out.items ++ drop (length l.initial.out.items) l.out.items)
