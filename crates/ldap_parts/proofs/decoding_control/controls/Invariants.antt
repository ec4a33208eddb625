-- What the loops of `controls` keep, and what grows less.
use Rattle.std.proofs.Common.{length, map}
use Rattle.ldap_ber.proofs.RowLemmas.{SoFar}
use Rattle.ldap_parts.specs.View.{control_view}
use Rattle.ldap_parts.specs.Grammar.{HasControl}
use Rattle.ldap_parts.proofs.decoding_control.controls.Given as goal

abbrev pub invariant-loop-rest : goal.invariant-loop-rest
invariant-loop-rest l = SoFar HasControl l.content (map control_view l.controls.items) l.rest

abbrev pub decreases-loop-rest : goal.decreases-loop-rest
decreases-loop-rest l = length l.rest
