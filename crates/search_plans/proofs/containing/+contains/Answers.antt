-- What search doesn't prove of `+contains`: `is_member-returns-in-Union` and `is_member-returns-in-Inter`, by lemmas of
-- `Gathered` and `Equations`.
use Rattle.std.proofs.Common.{◌∙◌, sym, ap}
use Rattle.search_plans.specs.declared.plan.Plan.{Plan}
use Rattle.std.proofs.lemmas.List.Folds.{list_all-map}
use Rattle.search_plans.proofs.Gathered.{any_map}
use Rattle.search_plans.specs.private.Sets.{is_in_when}
use Rattle.search_plans.proofs.Equations.{in_plan-Union, in_plan-Inter}
use Rattle.search_plans.proofs.containing.+contains.Goals as goal

pub is_member-returns-in-Union : goal.is_member-returns-in-Union
is_member-returns-in-Union g t c =
    let found = rw c.deref.ensures.value at c.in_any.ensures in
    found ∙ sym (ap (λ (p : Plan). is_in_when (g.K.PostingLists.lists c.args.kept.now) c.args.in_scope p
    c.args.number) c.in-Union.is ∙ in_plan-Union _ _ _ c.in-Union.plans ∙ any_map _ _ c.in-Union.plans.items)

pub is_member-returns-in-Inter : goal.is_member-returns-in-Inter
is_member-returns-in-Inter g t c =
    let found = rw c.deref-in-Inter.ensures.value at c.in_all.ensures in
    found ∙ sym (ap (λ (p : Plan). is_in_when (g.K.PostingLists.lists c.args.kept.now) c.args.in_scope p
    c.args.number) c.in-Inter.is ∙ in_plan-Inter _ _ _ c.in-Inter.plans ∙ list_all-map _ _ c.in-Inter.plans.items)
