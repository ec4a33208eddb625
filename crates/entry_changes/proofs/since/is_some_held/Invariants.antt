use Rattle.std.proofs.Common.{◌≡◌, ℕ, Bor, List, drop, is_some}
use Rattle.std.specs.List.{list_any}
use Rattle.entry_changes.specs.Opening.{since}
use Rattle.entry_changes.proofs.since.is_some_held.Given as goal

abbrev pub invariant-loop-octets : goal.invariant-loop-octets
invariant-loop-octets l = list_any (λ (o : Bor (List ℕ)). is_some (since l.held.entries o.now))
    (drop l.octets-index l.list) ≡ list_any (λ (o : Bor (List ℕ)). is_some (since l.held.entries o.now)) l.list
