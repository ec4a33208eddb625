use Rattle.std.proofs.Common.{◌≡◌}
use Rattle.ldap_syntax.specs.Text.{mapped}
use Rattle.ldap_syntax.proofs.mapping.mapped.Given as goal

abbrev pub invariant-loop-c : goal.invariant-loop-c
invariant-loop-c l = l.out.items ≡ mapped l.yielded
