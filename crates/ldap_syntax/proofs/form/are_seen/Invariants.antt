use Rattle.std.proofs.Common.{◌≡◌, drop, true}
use Rattle.ldap_syntax.specs.private.Seen.{are_seen_behind}
use Rattle.ldap_syntax.proofs.form.are_seen.Given as goal

abbrev pub invariant-loop-octet : goal.invariant-loop-octet
invariant-loop-octet l = are_seen_behind l.is_behind_space (drop l.octet-index l.octets) ≡ are_seen_behind true l.octets
