use Rattle.std.proofs.Common.{◌≡◌, ◌++◌, ◌∷◌, drop, map, flat_map, string_bytes, length}
use Rattle.ldap_dn.specs.Printed.{printed_type_and_value}
use Rattle.ldap_dn.proofs.printing.put_more.Given as goal

abbrev pub invariant-loop-one : goal.invariant-loop-one
invariant-loop-one l =
    (string_bytes l.out ++ flat_map (λ y. 43 ∷ y) (map (printed_type_and_value l.schema) (drop l.one-index l.list))
    ≡ string_bytes l.fn.out ++ flat_map (λ y. 43 ∷ y) (map (printed_type_and_value l.schema) l.list))
    × (string_bytes l.out ≡ string_bytes l.fn.out ++ drop (length (string_bytes l.fn.out)) (string_bytes l.out))
