use Rattle.std.proofs.Common.{◌≡◌, reverse, length}
use Rattle.value_parts.specs.Parts.{whole, before}
use Rattle.value_parts.specs.KeptParts.{as_part, HaveTexts}
use Rattle.value_parts.proofs.part_list.cut.Given as goal

abbrev pub invariant-loop-rest : goal.invariant-loop-rest
invariant-loop-rest l = (before (as_part l.rest) (whole (reverse l.backward.items)) ≡ as_part l.fn.lists)
    × HaveTexts (as_part l.rest)

abbrev pub decreases-loop-rest : goal.decreases-loop-rest
decreases-loop-rest l = length l.rest.values.items
