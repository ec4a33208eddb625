use Rattle.std.proofs.Common.{◌≡◌, ◌++◌, drop}
use Rattle.value_parts.specs.KeptParts.{are_beside}
use Rattle.value_parts.proofs.without.marks_of_values.Given as goal

abbrev pub invariant-loop-value : goal.invariant-loop-value
invariant-loop-value l = l.marks.items ++ are_beside l.given (drop l.value-index l.values) ≡ are_beside l.given l.values
