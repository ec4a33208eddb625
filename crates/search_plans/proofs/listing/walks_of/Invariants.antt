use Rattle.std.proofs.Common.{◌≡◌, ◌++◌, drop, map}
use Rattle.dir_index.specs.private.Postings.{AreRising}
use Rattle.search_plans.proofs.listing.walks_of.Given as goal

abbrev pub invariant-loop-set : goal.invariant-loop-set
invariant-loop-set l = record {
  same : l.walks.items ++ map (λ s. s.now) (drop l.set-index l.sets) ≡ map (λ s. s.now) l.sets;
  rising : AreRising l.walks.items;
}
