use Rattle.std.proofs.Common.{◌≡◌, ◌++◌}
use Rattle.value_parts.specs.Picked.{picked}
use Rattle.value_parts.proofs.lists.pick.Given as goal

abbrev pub invariant-loop-item : goal.invariant-loop-item
invariant-loop-item g l = l.picked.items ++ picked l.rest l.item-iterator.rest.items ≡ picked l.fn.marks
    l.fn.items.items
