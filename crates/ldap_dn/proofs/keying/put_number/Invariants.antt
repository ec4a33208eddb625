use Rattle.std.proofs.Common.{◌≡◌, ◌++◌, drop, length}
use Rattle.ldap_dn.specs.NameKeys.{number_octets}
use Rattle.ldap_dn.proofs.keying.put_number.Given as goal

abbrev pub decreases-loop-left : goal.decreases-loop-left
decreases-loop-left l = l.left

abbrev pub invariant-loop-left : goal.invariant-loop-left
invariant-loop-left l =
    (l.out.items ++ number_octets l.left ≡ l.initial.out.items ++ number_octets l.fn.number)
    × (l.out.items ≡ l.initial.out.items ++ drop (length l.initial.out.items) l.out.items)
