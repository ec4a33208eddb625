use Rattle.std.proofs.Common.{◌+◌, ◌-◌, length}
use Rattle.schema_faults.specs.private.Reaching.{IsReached}
use Rattle.schema_faults.proofs.Reaching.{unseen}
use Rattle.schema_faults.proofs.loops.of_class.Given as goal

abbrev pub invariant-loop-class : goal.invariant-loop-class
invariant-loop-class l = IsReached l.classes l.number l.place l.reached

abbrev pub decreases-loop-class : goal.decreases-loop-class
decreases-loop-class l = unseen l.reached.seen + length l.reached.order - l.place
