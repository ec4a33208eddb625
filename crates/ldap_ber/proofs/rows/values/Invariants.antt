-- What the loops of `values` keep, and what grows less.
use Rattle.std.proofs.Common.{length, map}
use Rattle.ldap_ber.specs.Fields.{HasField}
use Rattle.ldap_ber.proofs.RowLemmas.{SoFar}
use Rattle.ldap_ber.proofs.rows.values.Given as goal

abbrev pub invariant-loop-rest : goal.invariant-loop-rest
invariant-loop-rest l = SoFar (λ v octets rest. HasField octets 4 v rest) l.content
    (map (λ v. v.items) l.values.items) l.rest

abbrev pub decreases-loop-rest : goal.decreases-loop-rest
decreases-loop-rest l = length l.rest
