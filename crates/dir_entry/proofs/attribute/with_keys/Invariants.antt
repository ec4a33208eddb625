use Rattle.std.proofs.Common.{ℕ, List, Bor, ◌≡◌, ◌++◌, drop, map}
use Rattle.dir_entry.proofs.attribute.with_keys.Given as goal

abbrev pub invariant-loop-key : goal.invariant-loop-key
invariant-loop-key l = map (λ (o : Bor (List ℕ)). o.now) l.list.items ++ drop l.key-index l.keys ≡
    map (λ (o : Bor (List ℕ)). o.now) l.fn.octets.items ++ l.keys
