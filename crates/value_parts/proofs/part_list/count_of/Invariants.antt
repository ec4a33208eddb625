use Rattle.std.proofs.Common.{◌≡◌, take, length}
use Rattle.value_parts.specs.Parts.{whole}
use Rattle.value_parts.proofs.part_list.count_of.Given as goal

abbrev pub invariant-loop-part : goal.invariant-loop-part
invariant-loop-part l = l.count ≡ length (whole (take l.part-index l.parts)).values
