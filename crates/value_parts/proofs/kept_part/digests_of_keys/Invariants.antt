use Rattle.std.proofs.Common.{◌≡◌, ◌++◌, drop, map}
use Rattle.value_parts.specs.Digests.{digest_of}
use Rattle.value_parts.proofs.kept_part.digests_of_keys.Given as goal

abbrev pub invariant-loop-key : goal.invariant-loop-key
invariant-loop-key l = l.digests.items ++ map digest_of (drop l.key-index l.keys) ≡ map digest_of l.keys
