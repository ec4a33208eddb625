use Rattle.std.proofs.Common.{◌≡◌, ◌++◌, drop}
use Rattle.value_parts.proofs.part_list.share_parts.Given as goal

abbrev pub invariant-loop-part : goal.invariant-loop-part
invariant-loop-part l = l.copy.items ++ drop l.part-index l.parts ≡ l.parts
