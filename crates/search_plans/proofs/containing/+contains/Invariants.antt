use Rattle.std.proofs.Common.{◌≡◌, drop}
use Rattle.std.specs.List.{list_any, list_all}
use Rattle.search_plans.specs.private.Sets.{is_in_when}
use Rattle.search_plans.proofs.containing.+contains.Given as goal

abbrev pub invariant-in_all-loop-plan : goal.invariant-in_all-loop-plan
invariant-in_all-loop-plan g l =
    list_all (λ p. is_in_when (g.K.PostingLists.lists l.kept) l.in_scope p l.number) (drop l.plan-index l.plans) ≡
    list_all (λ p. is_in_when (g.K.PostingLists.lists l.kept) l.in_scope p l.number) l.plans

abbrev pub invariant-in_any-loop-plan : goal.invariant-in_any-loop-plan
invariant-in_any-loop-plan g l =
    list_any (λ p. is_in_when (g.K.PostingLists.lists l.kept) l.in_scope p l.number) (drop l.plan-index l.plans) ≡
    list_any (λ p. is_in_when (g.K.PostingLists.lists l.kept) l.in_scope p l.number) l.plans
