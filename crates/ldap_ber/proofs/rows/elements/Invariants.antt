-- What the loops of `elements` keep, and what grows less.
use Rattle.std.proofs.Common.{length}
use Rattle.ldap_ber.proofs.RowLemmas.{Passed}
use Rattle.ldap_ber.proofs.rows.elements.Given as goal

abbrev pub invariant-loop-rest : goal.invariant-loop-rest
invariant-loop-rest l = Passed l.content l.rest

abbrev pub decreases-loop-rest : goal.decreases-loop-rest
decreases-loop-rest l = length l.rest
