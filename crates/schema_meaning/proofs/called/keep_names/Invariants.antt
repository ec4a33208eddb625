use Rattle.std.proofs.Common.{ℕ, List, ◌≡◌, drop, map}
use Rattle.std.specs.List.{list_any}
use Rattle.std.specs.Char.{to_ascii_lowercase}
use Rattle.std.specs.Str.{bytes_eq}
use Rattle.schema_meaning.specs.private.Octets.{number_at, kept_or}
use Rattle.schema_meaning.proofs.called.keep_names.Given as goal

abbrev pub invariant-loop-name : goal.invariant-loop-name
invariant-loop-name l =
    (q : List ℕ) → kept_or (number_at l.numbers.entries q)
    (list_any (λ n. bytes_eq q (map to_ascii_lowercase n.items)) (drop l.name-index l.names)) l.number
    ≡ kept_or (number_at l.initial.numbers.entries q) (list_any (λ n. bytes_eq q (map to_ascii_lowercase n.items))
    l.names) l.number
