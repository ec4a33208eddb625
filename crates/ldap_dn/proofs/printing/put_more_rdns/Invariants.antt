use Rattle.std.proofs.Common.{◌≡◌, ◌++◌, ◌∷◌, drop, map, flat_map, string_bytes, length}
use Rattle.ldap_dn.specs.Printed.{printed_rdn}
use Rattle.ldap_dn.proofs.printing.put_more_rdns.Given as goal

abbrev pub invariant-loop-rdn : goal.invariant-loop-rdn
invariant-loop-rdn l =
    (string_bytes l.out ++ flat_map (λ y. 44 ∷ y) (map (λ r. printed_rdn l.schema r.spelling)
    (map (λ r. r.now) (drop l.rdn-index l.rdns)))
    ≡ string_bytes l.fn.out ++ flat_map (λ y. 44 ∷ y) (map (λ r. printed_rdn l.schema r.spelling)
    (map (λ r. r.now) l.rdns)))
    × (string_bytes l.out ≡ string_bytes l.fn.out ++ drop (length (string_bytes l.fn.out)) (string_bytes l.out))
