use Rattle.std.proofs.Common.{◌≡◌, drop}
use Rattle.file_device.specs.Unused.{is_torn}
use Rattle.file_device.proofs.judging.is_torn.Given as goal

-- what is left of both decides
abbrev pub invariant-loop-octet : goal.invariant-loop-octet
invariant-loop-octet l = is_torn l.octets l.written ≡ is_torn (drop l.octet-index l.octets) l.left
