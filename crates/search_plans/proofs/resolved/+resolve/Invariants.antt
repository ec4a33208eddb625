use Rattle.std.proofs.Common.{take}
use Rattle.search_plans.specs.private.Resolved.{AreResolved}
use Rattle.search_plans.proofs.resolved.+resolve.Given as goal

abbrev pub invariant-resolve_each-loop-plan : goal.invariant-resolve_each-loop-plan
invariant-resolve_each-loop-plan g l = AreResolved (g.K.PostingLists.lists l.kept) (take l.plan-index l.plans)
    l.resolved.items
