-- What the loops of `texts` keep, and what grows less.
use Rattle.std.proofs.Common.{length, map}
use Rattle.std.specs.Prelude.{string_bytes}
use Rattle.ldap_ber.specs.Fields.{HasText}
use Rattle.ldap_ber.proofs.RowLemmas.{SoFar}
use Rattle.ldap_ber.proofs.rows.texts.Given as goal

abbrev pub invariant-loop-rest : goal.invariant-loop-rest
invariant-loop-rest l = SoFar (λ t octets rest. HasText octets 4 t rest) l.content (map string_bytes l.texts.items)
    l.rest

abbrev pub decreases-loop-rest : goal.decreases-loop-rest
decreases-loop-rest l = length l.rest
