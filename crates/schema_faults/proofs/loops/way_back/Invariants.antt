use Rattle.std.proofs.Common.{◌<◌, length}
use Rattle.schema_faults.proofs.Reaching.{IsWayTo}
use Rattle.schema_faults.proofs.loops.way_back.Given as goal

abbrev pub invariant-loop-place : goal.invariant-loop-place
invariant-loop-place l = record {
  within : l.place < length l.order;
  way : IsWayTo l.classes l.start l.order l.place l.numbers.items;
}

abbrev pub decreases-loop-place : goal.decreases-loop-place
decreases-loop-place l = l.place
