use Rattle.std.proofs.Common.{◌≡◌, drop}
use Rattle.value_parts.specs.Digests.{digest_on}
use Rattle.value_parts.proofs.digest.digest.Given as goal

abbrev pub invariant-loop-octet : goal.invariant-loop-octet
invariant-loop-octet l = digest_on l.digest (drop l.octet-index l.octets) ≡ digest_on 0 l.fn.octets
