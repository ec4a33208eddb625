use Rattle.std.proofs.Common.{◌≡◌, ◌++◌, ◌≤◌, drop, map}
use Rattle.std.specs.List.{slice_range}
use Rattle.schema_faults.specs.Pieces.{pieces_from, pieces_of}
use Rattle.schema_faults.proofs.pieces.pieces_of.Given as goal

abbrev pub invariant-loop-index : goal.invariant-loop-index
invariant-loop-index l = record {
  start : l.start ≤ l.index;
  pieces : map (λ x. x.now) l.pieces.items ++ pieces_from l.scan (slice_range l.octets l.start l.index)
      (drop l.index l.octets) ≡ pieces_of l.octets;
}
