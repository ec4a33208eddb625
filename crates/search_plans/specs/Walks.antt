-- What a walk still has to give.
use Rattle.std.specs.Prelude.{ℕ, List, drop}
use Rattle.search_plans.specs.declared.walking.Rest.{Rest}
use Rattle.search_plans.specs.declared.walking.Rest.TheVariants.{OfSlice, OfSet, Gathered}

-- the numbers that are still to come
abbrev pub still_in : Rest → List ℕ
still_in (OfSlice ns) = ns.now
still_in (OfSet ns) = ns
still_in (Gathered ns at) = drop at ns.items
