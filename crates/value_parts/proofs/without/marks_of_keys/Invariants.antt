use Rattle.std.proofs.Common.{◌≡◌, ◌++◌, drop}
use Rattle.value_parts.specs.KeptParts.{are_beside}
use Rattle.value_parts.proofs.without.marks_of_keys.Given as goal

abbrev pub invariant-loop-key : goal.invariant-loop-key
invariant-loop-key l = l.marks.items ++ are_beside l.given (drop l.key-index l.keys) ≡ are_beside l.given l.keys
