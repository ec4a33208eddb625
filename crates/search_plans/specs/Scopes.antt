-- The numbers of a scope.
use Rattle.std.specs.Prelude.{ℕ, List}
use Rattle.search_plans.specs.declared.scope.Source.{Source}
use Rattle.search_plans.specs.declared.scope.Source.TheVariants.{Slice, Set}

-- the numbers in rising order
abbrev pub numbers_of : Source → List ℕ
numbers_of (Slice ns) = ns.now
numbers_of (Set ns) = ns.now
