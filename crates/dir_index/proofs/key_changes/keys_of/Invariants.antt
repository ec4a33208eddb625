use Rattle.std.proofs.Common.{◌≡◌, ◌++◌, map}
use Rattle.dir_index.proofs.key_changes.keys_of.Given as goal

abbrev pub invariant-loop-part : goal.invariant-loop-part
invariant-loop-part l = map (λ k. k.now) l.keys.items ++ l.rest.keys ≡ l.attribute.keys

abbrev pub decreases-loop-part : goal.decreases-loop-part
decreases-loop-part l = l.rest.count
