-- LDIF, what a line says: what the loop of `past_spaces` keeps.
use Rattle.std.proofs.Common.{◌≡◌, drop}
use Rattle.ldif.specs.Says.{past_spaces}
use Rattle.ldif.proofs.saying.past_spaces.Given as goal

abbrev pub invariant-loop-at : goal.invariant-loop-at
invariant-loop-at l = past_spaces (drop l.at l.octets) ≡ past_spaces l.octets
