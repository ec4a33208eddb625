use Rattle.std.proofs.Common.{◌≡◌, drop}
use Rattle.std.specs.List.{list_any}
use Rattle.std.specs.Str.{bytes_eq}
use Rattle.value_parts.specs.KeptParts.{octets_in}
use Rattle.value_parts.proofs.without.has_some.Given as goal

abbrev pub invariant-loop-sought : goal.invariant-loop-sought
invariant-loop-sought l = list_any (λ q. list_any (bytes_eq q) (octets_in l.by_keys l.part)) (drop l.sought-index l.given)
    ≡ list_any (λ q. list_any (bytes_eq q) (octets_in l.by_keys l.part)) l.given
