use Rattle.std.proofs.Common.{map, drop}
use Rattle.ldap_dn.specs.ldap_syntax.Keys.{part_key_at}
use Rattle.ldap_dn.specs.ldap_syntax.declared.preparing.Part.TheVariants.{Any}
use Rattle.ldap_match.proofs.Keys.{KeysSoFar}
use Rattle.ldap_match.proofs.parts.any_keys.Given as goal

abbrev pub invariant-loop-part : goal.invariant-loop-part
invariant-loop-part l = KeysSoFar (part_key_at l.rule Any) (map (λ x. x.items) l.any) l.keys.items
    (map (λ x. x.items) (drop l.part-index l.any))
