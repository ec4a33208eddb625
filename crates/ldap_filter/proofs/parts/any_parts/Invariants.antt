-- What the loop of `any_parts` keeps, and what grows less.
use Rattle.std.proofs.Common.{map, length}
use Rattle.ldap_filter.proofs.Exits.{SomeParts}
use Rattle.ldap_filter.proofs.parts.any_parts.Given as goal

abbrev pub invariant-loop-alloc : goal.invariant-loop-alloc
invariant-loop-alloc l = SomeParts l.octets (map (λ v. v.items) l.parts.items) l.rest

abbrev pub decreases-loop-alloc : goal.decreases-loop-alloc
decreases-loop-alloc l = length l.rest
