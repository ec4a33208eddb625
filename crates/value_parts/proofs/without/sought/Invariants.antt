use Rattle.std.proofs.Common.{ℕ, List, Bor, ◌≡◌, ◌++◌, drop, map}
use Rattle.value_parts.proofs.without.sought.Given as goal

abbrev pub invariant-loop-octets : goal.invariant-loop-octets
invariant-loop-octets l = l.list.items ++ map (λ (o : Bor (List ℕ)). o.now) (drop l.octets-index l.given) ≡
    map (λ (o : Bor (List ℕ)). o.now) l.given
