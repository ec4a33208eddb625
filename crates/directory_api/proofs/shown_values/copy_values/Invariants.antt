use Rattle.std.proofs.Common.{◌≡◌, ◌++◌, map}
use Rattle.directory_api.proofs.shown_values.copy_values.Given as goal

-- copies of the parts so far, and the values that are left
abbrev pub invariant-loop-part : goal.invariant-loop-part
invariant-loop-part l = map (λ v. v.items) l.copies.items ++ l.rest.values ≡ l.attribute.values

abbrev pub decreases-loop-part : goal.decreases-loop-part
decreases-loop-part l = l.rest.count
