use Rattle.std.proofs.Common.{◌≡◌, drop}
use Rattle.schema_faults.specs.Pieces.{stop_from, stop_in}
use Rattle.schema_faults.proofs.pieces.stop_in.Given as goal

abbrev pub invariant-loop-index : goal.invariant-loop-index
invariant-loop-index l = stop_from l.scan l.index (drop l.index l.octets) ≡ stop_in l.octets
