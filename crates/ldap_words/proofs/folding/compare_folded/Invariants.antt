use Rattle.std.proofs.Common.{◌≡◌, drop, map}
use Rattle.std.specs.Char.{to_ascii_lowercase}
use Rattle.ldap_words.specs.NameOrder.{order}
use Rattle.ldap_words.proofs.folding.compare_folded.Given as goal

abbrev pub invariant-loop-octet : goal.invariant-loop-octet
invariant-loop-octet l = order (drop l.octet-index l.kept) (map to_ascii_lowercase l.rest) ≡ order l.kept
    (map to_ascii_lowercase l.asked)
