use Rattle.std.proofs.Common.{◌≡◌, ◌++◌, drop, length, string_bytes, true}
use Rattle.ldap_dn.specs.Printed.{printed_from}
use Rattle.ldap_dn.proofs.printing.put_characters.Given as goal

abbrev pub invariant-loop-c : goal.invariant-loop-c
invariant-loop-c l =
    (l.left ≡ length (drop l.c-index l.characters))
    × (string_bytes l.out ++ printed_from l.is_first (drop l.c-index l.characters) ≡ string_bytes
    l.fn.out ++ printed_from true l.characters)
    × (string_bytes l.out ≡ string_bytes l.fn.out ++ drop (length (string_bytes l.fn.out)) (string_bytes l.out))
