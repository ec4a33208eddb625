use Rattle.std.proofs.Common.{take}
use Rattle.search_plans.specs.private.Streams.{IsLeastHead}
use Rattle.search_plans.proofs.stream.least_head.Given as goal

abbrev pub invariant-loop-walk : goal.invariant-loop-walk
invariant-loop-walk l = IsLeastHead l.best (take l.walk-index l.walks)
