-- What the folds give at each variant of a plan.
use Rattle.std.proofs.Common.{◌≡◌, Bool, false, ◌&&◌, not, map, Vec, Box, Global, sym, ap, ◌∙◌}
use Rattle.std.specs.List.{list_any, list_all}
use Rattle.search_plans.specs.Sets.{in_plan, in_step}
use Rattle.dir_index.specs.declared.posting.Posting.{Posting as ThePosting}
use Rattle.dir_index.specs.declared.posting.Range.{Range as TheRange}
use Rattle.search_plans.specs.declared.plan.Plan.{Plan}
use Rattle.search_plans.specs.declared.plan.Plan.TheVariants as plan
use Rattle.search_plans.specs.declared.plan.Plan.TheVariants.{rolls-Empty, rolls-Scope, rolls-Posting, rolls-Range, rolls-Union, rolls-Inter, rolls-Minus}
use Rattle.search_plans.specs.declared.plan.Plan.TheOpen.{Plan-F}
use Rattle.search_plans.specs.declared.plan.Plan.TheFolds.{fold-roll-Plan}

pub in_plan-Empty : (s : Bool) (p : ThePosting → Bool) (r : TheRange → Bool) → in_plan s p r plan.Empty ≡ false
in_plan-Empty s p r = ap (in_plan s p r) (sym rolls-Empty) ∙ fold-roll-Plan Bool (in_step s p r) Plan-F.Empty

pub in_plan-Scope : (s : Bool) (p : ThePosting → Bool) (r : TheRange → Bool) → in_plan s p r plan.Scope ≡ s
in_plan-Scope s p r = ap (in_plan s p r) (sym rolls-Scope) ∙ fold-roll-Plan Bool (in_step s p r) Plan-F.Scope

pub in_plan-Posting : (s : Bool) (p : ThePosting → Bool) (r : TheRange → Bool) (x : ThePosting) →
    in_plan s p r (plan.Posting x) ≡ p x
in_plan-Posting s p r x = ap (in_plan s p r) (sym (rolls-Posting x)) ∙ fold-roll-Plan Bool (in_step s p r)
    (Plan-F.Posting x)

pub in_plan-Range : (s : Bool) (p : ThePosting → Bool) (r : TheRange → Bool) (x : TheRange) →
    in_plan s p r (plan.Range x) ≡ r x
in_plan-Range s p r x = ap (in_plan s p r) (sym (rolls-Range x)) ∙ fold-roll-Plan Bool (in_step s p r) (Plan-F.Range x)

pub in_plan-Union : (s : Bool) (p : ThePosting → Bool) (r : TheRange → Bool) (v : Vec Plan Global) →
    in_plan s p r (plan.Union v) ≡ list_any (λ b. b) (map (in_plan s p r) v.items)
in_plan-Union s p r v = ap (in_plan s p r) (sym (rolls-Union v)) ∙ fold-roll-Plan Bool (in_step s p r) (Plan-F.Union v)

pub in_plan-Inter : (s : Bool) (p : ThePosting → Bool) (r : TheRange → Bool) (v : Vec Plan Global) →
    in_plan s p r (plan.Inter v) ≡ list_all (λ b. b) (map (in_plan s p r) v.items)
in_plan-Inter s p r v = ap (in_plan s p r) (sym (rolls-Inter v)) ∙ fold-roll-Plan Bool (in_step s p r) (Plan-F.Inter v)

pub in_plan-Minus : (s : Bool) (p : ThePosting → Bool) (r : TheRange → Bool) (a b : Box Plan Global) →
    in_plan s p r (plan.Minus a b) ≡ (in_plan s p r a.value && not (in_plan s p r b.value))
in_plan-Minus s p r a b = ap (in_plan s p r) (sym (rolls-Minus a b)) ∙ fold-roll-Plan Bool (in_step s p r)
    (Plan-F.Minus a b)
