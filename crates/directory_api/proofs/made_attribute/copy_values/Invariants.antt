use Rattle.std.proofs.Common.{◌≡◌, map, take}
use Rattle.directory_api.proofs.made_attribute.copy_values.Given as goal

-- those so far
abbrev pub invariant-loop-value : goal.invariant-loop-value
invariant-loop-value l = map (λ v. v.items) l.copies.items ≡ map (λ v. v.items) (take l.value-index l.values)
