use Rattle.std.proofs.Common.{ℕ, List, Bor, ◌≡◌, ◌++◌, map}
use Rattle.dir_entry.proofs.attribute.octets_of_values.Given as goal

abbrev pub invariant-loop-part : goal.invariant-loop-part
invariant-loop-part l = map (λ (o : Bor (List ℕ)). o.now) l.list.items ++ l.rest.values ≡ l.fn.parts.values

abbrev pub decreases-loop-part : goal.decreases-loop-part
decreases-loop-part l = l.rest.count
