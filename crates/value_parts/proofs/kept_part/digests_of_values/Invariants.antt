use Rattle.std.proofs.Common.{◌≡◌, ◌++◌, drop, map}
use Rattle.value_parts.specs.Digests.{digest_of}
use Rattle.value_parts.proofs.kept_part.digests_of_values.Given as goal

abbrev pub invariant-loop-value : goal.invariant-loop-value
invariant-loop-value l = l.digests.items ++ map digest_of (drop l.value-index l.values) ≡ map digest_of l.values
