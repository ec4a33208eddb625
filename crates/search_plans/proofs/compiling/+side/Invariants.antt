use Rattle.std.proofs.Common.{take}
use Rattle.search_plans.specs.private.Sides.{EachSide}
use Rattle.search_plans.proofs.compiling.+side.Given as goal

abbrev pub invariant-sides-loop-filter : goal.invariant-sides-loop-filter
invariant-sides-loop-filter l = EachSide l.indexes l.wanted (take l.filter-index l.filters) l.musts.items l.mays.items
