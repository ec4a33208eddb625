-- What the loops of `changes_of` keep, and what grows less.
use Rattle.std.proofs.Common.{length, map}
use Rattle.ldap_ber.proofs.RowLemmas.{SoFar}
use Rattle.ldap_parts.specs.UpdateView.{change_view}
use Rattle.ldap_parts.specs.UpdateGrammar.{HasChange}
use Rattle.ldap_parts.proofs.decoding_modify.changes_of.Given as goal

abbrev pub invariant-loop-rest : goal.invariant-loop-rest
invariant-loop-rest l = SoFar HasChange l.content (map change_view l.changes.items) l.rest

abbrev pub decreases-loop-rest : goal.decreases-loop-rest
decreases-loop-rest l = length l.rest
