use Rattle.std.proofs.Common.{◌≡◌, ℕ, Bor, List, drop, is_some}
use Rattle.std.specs.List.{list_all}
use Rattle.entry_changes.specs.Opening.{since}
use Rattle.entry_changes.proofs.since.are_all_held.Given as goal

abbrev pub invariant-loop-octets : goal.invariant-loop-octets
invariant-loop-octets l = list_all (λ (o : Bor (List ℕ)). is_some (since l.held.entries o.now))
    (drop l.octets-index l.list) ≡ list_all (λ (o : Bor (List ℕ)). is_some (since l.held.entries o.now)) l.list
