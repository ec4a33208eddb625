use Rattle.std.proofs.Common.{◌≡◌, drop}
use Rattle.std.specs.List.{list_any, list_all}
use Rattle.search_plans.specs.private.Resolved.{is_in_resolved, AreSameInRow}
use Rattle.search_plans.proofs.resolved.+has.Given as goal

abbrev pub invariant-all_have-loop-i : goal.invariant-all_have-loop-i
invariant-all_have-loop-i g l = record {
  unvisited : goal.unvisited-all_have-loop-i g l;
  same : AreSameInRow l.number (g.K.PostingLists.lists l.kept) l.plans l.fn.plans;
  left : list_all (λ p. is_in_resolved (g.K.PostingLists.lists l.kept) p l.number) (drop l.i l.fn.plans) ≡
      list_all (λ p. is_in_resolved (g.K.PostingLists.lists l.kept) p l.number) l.fn.plans;
}

abbrev pub invariant-any_has-loop-i : goal.invariant-any_has-loop-i
invariant-any_has-loop-i g l = record {
  unvisited : goal.unvisited-any_has-loop-i g l;
  same : AreSameInRow l.number (g.K.PostingLists.lists l.kept) l.plans l.fn.plans;
  left : list_any (λ p. is_in_resolved (g.K.PostingLists.lists l.kept) p l.number) (drop l.i l.fn.plans) ≡
      list_any (λ p. is_in_resolved (g.K.PostingLists.lists l.kept) p l.number) l.fn.plans;
}
