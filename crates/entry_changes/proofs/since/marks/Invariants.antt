use Rattle.std.proofs.Common.{◌≡◌, ◌++◌, ℕ, Bor, List, drop, map}
use Rattle.entry_changes.specs.Opening.{since, marks_from}
use Rattle.entry_changes.proofs.since.marks.Given as goal

abbrev pub invariant-loop-octets : goal.invariant-loop-octets
invariant-loop-octets l =
    (l.place ≡ l.octets-index)
    × (l.marks.items ++ marks_from (since l.held.entries) l.place (map (λ (o : Bor (List ℕ)). o.now)
    (drop l.octets-index l.list)) ≡ marks_from (since l.held.entries) 0 (map (λ (o : Bor (List ℕ)). o.now) l.list))
