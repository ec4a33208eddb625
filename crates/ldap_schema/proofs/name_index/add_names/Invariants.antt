use Rattle.std.proofs.Common.{ℕ, List, ◌≡◌, drop}
use Rattle.std.specs.List.{list_any}
use Rattle.std.specs.Char.{to_ascii_lowercase}
use Rattle.std.specs.Str.{bytes_eq}
use Rattle.std.specs.String.{string_bytes}
use Rattle.std.proofs.Common.{map}
use Rattle.ldap_schema.specs.private.NameOrder.{number_at, kept_or}
use Rattle.ldap_schema.proofs.name_index.add_names.Given as goal

abbrev pub invariant-loop-name : goal.invariant-loop-name
invariant-loop-name l =
    (q : List ℕ) → kept_or (number_at l.table q) (list_any (λ n. bytes_eq q (map to_ascii_lowercase (string_bytes n)))
    (drop l.name-index l.names)) l.number
    ≡ kept_or (number_at l.initial.table q) (list_any (λ n. bytes_eq q (map to_ascii_lowercase (string_bytes n)))
    l.names) l.number
