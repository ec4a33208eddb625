use Rattle.std.proofs.Common.{◌≡◌, drop, map}
use Rattle.std.specs.List.{list_any}
use Rattle.std.specs.Char.{to_ascii_lowercase}
use Rattle.schema_meaning.specs.private.Octets.{number_at}
use Rattle.schema_meaning.specs.private.FirstLines.{is_less}
use Rattle.schema_meaning.proofs.first_lines.has_earlier_name.Given as goal

abbrev pub invariant-loop-name : goal.invariant-loop-name
invariant-loop-name l =
    list_any (λ n. is_less (number_at l.lines.entries (map to_ascii_lowercase n)) l.line)
    (map (λ v. v.items) (drop l.name-index l.names)) ≡
    list_any (λ n. is_less (number_at l.lines.entries (map to_ascii_lowercase n)) l.line)
    (map (λ v. v.items) l.names)
