use Rattle.std.proofs.Common.{◌≡◌, ℕ, Bor, List, drop}
use Rattle.std.specs.List.{list_any}
use Rattle.std.specs.Str.{bytes_eq}
use Rattle.entry_changes.specs.Opening.{octets_by}
use Rattle.entry_changes.proofs.searched.is_some_among.Given as goal

abbrev pub invariant-loop-octets : goal.invariant-loop-octets
invariant-loop-octets l =
    list_any (λ (o : Bor (List ℕ)). list_any (bytes_eq o.now) (octets_by l.by_keys l.attribute))
    (drop l.octets-index l.list)
    ≡ list_any (λ (o : Bor (List ℕ)). list_any (bytes_eq o.now) (octets_by l.by_keys l.attribute)) l.list
