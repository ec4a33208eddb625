use Rattle.std.proofs.Common.{◌≡◌, ◌++◌, map, take, drop}
use Rattle.search_plans.specs.private.Streams.{behind}
use Rattle.search_plans.proofs.stream.skip.Given as goal

abbrev pub invariant-loop-walk : goal.invariant-loop-walk
invariant-loop-walk l =
    l.walk-items ≡ map (behind l.number) (take l.walk-index l.fn.walks.items) ++ drop l.walk-index l.fn.walks.items
