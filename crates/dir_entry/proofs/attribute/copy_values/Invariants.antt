use Rattle.std.proofs.Common.{◌≡◌, ◌++◌, drop, map}
use Rattle.dir_entry.proofs.attribute.copy_values.Given as goal

abbrev pub invariant-loop-value : goal.invariant-loop-value
invariant-loop-value l = map (λ v. v.items) l.copy.items ++ map (λ v. v.items) (drop l.value-index l.values) ≡
    map (λ v. v.items) l.values
