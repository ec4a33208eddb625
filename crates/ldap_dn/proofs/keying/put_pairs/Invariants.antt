use Rattle.std.proofs.Common.{◌≡◌, ◌++◌, drop, length}
use Rattle.ldap_dn.specs.NameKeys.{listed, pair_octets}
use Rattle.ldap_dn.proofs.keying.put_pairs.Given as goal

abbrev pub invariant-loop-pair : goal.invariant-loop-pair
invariant-loop-pair l =
    (l.out.items ++ listed pair_octets (drop l.pair-index l.pairs) ≡ l.initial.out.items ++ listed pair_octets l.pairs)
    × (l.out.items ≡ l.initial.out.items ++ drop (length l.initial.out.items) l.out.items)
