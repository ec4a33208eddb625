use Rattle.std.proofs.Common.{◌≡◌, ◌||◌, drop, map}
use Rattle.schema_meaning.specs.Naming.{has_twice}
use Rattle.schema_meaning.specs.private.Octets.{number_at}
use Rattle.schema_meaning.proofs.Before.{is_seen}
use Rattle.schema_meaning.proofs.first_lines.has_twice.Given as goal

abbrev pub invariant-loop-name : goal.invariant-loop-name
invariant-loop-name l =
    (is_seen (number_at l.seen.entries) (map (λ v. v.items) (drop l.name-index l.names)) || has_twice
    (map (λ v. v.items) (drop l.name-index l.names))) ≡ has_twice (map (λ v. v.items) l.names)
