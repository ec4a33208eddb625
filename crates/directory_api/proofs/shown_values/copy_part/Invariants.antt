use Rattle.std.proofs.Common.{◌≡◌, ◌++◌, map, take}
use Rattle.directory_api.proofs.shown_values.copy_part.Given as goal

-- those so far stand behind those that were there
abbrev pub invariant-loop-value : goal.invariant-loop-value
invariant-loop-value l = map (λ v. v.items) l.copies.items ≡ map (λ v. v.items) l.initial.copies.items ++ take
    l.value-index l.values
