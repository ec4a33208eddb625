-- What the loops of `full_attributes` keep, and what grows less.
use Rattle.std.proofs.Common.{length, map}
use Rattle.ldap_ber.proofs.RowLemmas.{SoFar}
use Rattle.ldap_parts.specs.View.{attribute_view}
use Rattle.ldap_parts.specs.UpdateGrammar.{HasAttribute}
use Rattle.ldap_parts.proofs.decoding_add.full_attributes.Given as goal

abbrev pub invariant-loop-rest : goal.invariant-loop-rest
invariant-loop-rest l = SoFar HasAttribute l.content (map attribute_view l.attributes.items) l.rest

abbrev pub decreases-loop-rest : goal.decreases-loop-rest
decreases-loop-rest l = length l.rest
