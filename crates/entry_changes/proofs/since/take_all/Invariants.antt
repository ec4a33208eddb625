use Rattle.std.proofs.Common.{◌≡◌, ℕ, Bor, List, None, cond, take}
use Rattle.std.specs.List.{list_any}
use Rattle.std.specs.Str.{bytes_eq}
use Rattle.entry_changes.specs.Opening.{since}
use Rattle.entry_changes.proofs.since.take_all.Given as goal

abbrev pub invariant-loop-octets : goal.invariant-loop-octets
invariant-loop-octets l = (q : List ℕ) → since l.held.entries q ≡
    cond (list_any (λ (o : Bor (List ℕ)). bytes_eq q o.now) (take l.octets-index l.list)) None
    (since l.fn.held.entries q)
