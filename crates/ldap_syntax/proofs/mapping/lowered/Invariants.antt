use Rattle.std.proofs.Common.{◌≡◌, map}
use Rattle.std.specs.Char.{to_ascii_lowercase}
use Rattle.ldap_syntax.specs.Text.{mapped}
use Rattle.ldap_syntax.proofs.mapping.lowered.Given as goal

abbrev pub invariant-loop-c : goal.invariant-loop-c
invariant-loop-c l = l.out.items ≡ map to_ascii_lowercase (mapped l.yielded)
