use Rattle.std.proofs.Common.{◌≡◌, ◌+◌, drop, not, nat_eq}
use Rattle.std.specs.List.{prefix_len}
use Rattle.entry_changes.proofs.placing.count_before.Given as goal

abbrev pub invariant-loop-attribute : goal.invariant-loop-attribute
invariant-loop-attribute l =
    (l.count ≡ l.attribute-index)
    × (l.count + prefix_len (λ a. not (nat_eq a.kind l.type_id)) (drop l.attribute-index l.attributes) ≡
    prefix_len (λ a. not (nat_eq a.kind l.type_id)) l.attributes)
