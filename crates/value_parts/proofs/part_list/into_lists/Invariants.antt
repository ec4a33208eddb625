use Rattle.std.proofs.Common.{◌≡◌}
use Rattle.value_parts.specs.Parts.{whole, before}
use Rattle.value_parts.specs.KeptParts.{as_part, HaveTexts}
use Rattle.value_parts.proofs.part_list.into_lists.Given as goal

abbrev pub invariant-loop-part : goal.invariant-loop-part
invariant-loop-part l = (before (as_part l.all) (whole l.part-iterator.rest.items) ≡ whole l.fn.parts.items)
    × HaveTexts (as_part l.all)
