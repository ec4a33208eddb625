use Rattle.std.proofs.Common.{ℕ, List, Bor, ◌≡◌, ◌++◌, drop, map}
use Rattle.dir_entry.proofs.attribute.with_octets.Given as goal

abbrev pub invariant-loop-value : goal.invariant-loop-value
invariant-loop-value l = map (λ (o : Bor (List ℕ)). o.now) l.list.items ++ drop l.value-index l.values ≡
    map (λ (o : Bor (List ℕ)). o.now) l.fn.octets.items ++ l.values
