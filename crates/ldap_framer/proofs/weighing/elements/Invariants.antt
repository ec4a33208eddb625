use Rattle.std.proofs.Common.{◌≤◌, ◌+◌, length}
use Rattle.ldap_framer.proofs.weighing.elements.Given as goal

-- each element so far has an octet of its own before what is left
abbrev pub invariant-loop-size : goal.invariant-loop-size
invariant-loop-size l = l.count + length l.rest ≤ length l.octets

abbrev pub decreases-loop-size : goal.decreases-loop-size
decreases-loop-size l = length l.rest
