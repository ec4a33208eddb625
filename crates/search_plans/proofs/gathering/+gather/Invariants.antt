use Rattle.std.proofs.Common.{◌≡◌, take}
use Rattle.std.specs.List.{list_any}
use Rattle.dir_index.specs.private.Postings.{AreRising}
use Rattle.search_plans.specs.Sets.{is_in}
use Rattle.search_plans.specs.private.Streams.{Gathers}
use Rattle.search_plans.proofs.gathering.+gather.Given as goal

abbrev pub invariant-push_each-loop-plan : goal.invariant-push_each-loop-plan
invariant-push_each-loop-plan g l = record {
  gathers : Gathers (λ n. list_any (λ p. is_in (g.K.PostingLists.lists l.kept) l.scope p n)
      (take l.plan-index l.plans)) l.scope l.fn.into.items l.into.items;
  rising : AreRising l.fn.into.items → AreRising l.into.items;
}

abbrev pub invariant-push_one-loop-i : goal.invariant-push_one-loop-i
invariant-push_one-loop-i g l = l.into.items ≡ l.fn.into.items
