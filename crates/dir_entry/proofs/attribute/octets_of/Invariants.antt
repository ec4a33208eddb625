use Rattle.std.proofs.Common.{ℕ, Vec, Global, ◌≡◌, ◌++◌, map}
use Rattle.dir_entry.proofs.attribute.octets_of.Given as goal

abbrev pub invariant-loop-value : goal.invariant-loop-value
invariant-loop-value l = l.list.items ++ map (λ (v : Vec ℕ Global). v.items) l.value-iterator.rest.items ≡
    map (λ (v : Vec ℕ Global). v.items) l.fn.values.items
