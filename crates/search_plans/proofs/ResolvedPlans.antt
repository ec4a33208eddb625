-- Resolved plans: what the fold gives at each variant that has parts, and a row that is resolved plan by plan.
use Rattle.std.proofs.Common.{◌≡◌, ℕ, ◌+◌, ◌<◌, ◌≤◌, Bool, true, ◌&&◌, not, List, [], ◌∷◌, ◌++◌, length, take, get_or, map, Vec, Box, Global, sym, ap, ap₂, ◌∙◌}
use Rattle.std.proofs.lemmas.List.{map-append, take_all, take_more}
use Rattle.std.specs.List.{list_any, list_all}
use Rattle.dir_index.specs.Postings.{Lists, has_number}
use Rattle.search_plans.specs.declared.plan.Plan.{Plan}
use Rattle.search_plans.specs.declared.plan.Plan.TheVariants as plan
use Rattle.search_plans.specs.declared.resolved.ResolvedPlan.{ResolvedPlan}
use Rattle.search_plans.specs.declared.resolved.ResolvedPlan.TheVariants as resolved
use Rattle.search_plans.specs.declared.resolved.ResolvedPlan.TheVariants.{rolls-Union, rolls-Inter, rolls-Not}
use Rattle.search_plans.specs.declared.resolved.ResolvedPlan.TheOpen.{ResolvedPlan-F}
use Rattle.search_plans.specs.declared.resolved.ResolvedPlan.TheFolds.{fold-roll-ResolvedPlan}
use Rattle.search_plans.specs.private.Resolved.{resolved_step, is_in_resolved, IsResolved, AreResolved, IsDifference}
use Rattle.search_plans.specs.private.Sets.{is_in_when}
use Rattle.search_plans.proofs.Equations.{in_plan-Union, in_plan-Inter, in_plan-Minus}

pub in_resolved-Union : (kept : Lists) (n : ℕ) (v : Vec ResolvedPlan Global) → is_in_resolved kept (resolved.Union v)
    n ≡ list_any (λ b. b) (map (λ r. is_in_resolved kept r n) v.items)
in_resolved-Union kept n v =
    ap (λ (r : ResolvedPlan). is_in_resolved kept r n) (sym (rolls-Union v)) ∙ fold-roll-ResolvedPlan Bool
    (resolved_step (has_number n) (λ r. has_number n (kept.range r))) (ResolvedPlan-F.Union v)

pub in_resolved-Inter : (kept : Lists) (n : ℕ) (v : Vec ResolvedPlan Global) → is_in_resolved kept (resolved.Inter v)
    n ≡ list_all (λ b. b) (map (λ r. is_in_resolved kept r n) v.items)
in_resolved-Inter kept n v =
    ap (λ (r : ResolvedPlan). is_in_resolved kept r n) (sym (rolls-Inter v)) ∙ fold-roll-ResolvedPlan Bool
    (resolved_step (has_number n) (λ r. has_number n (kept.range r))) (ResolvedPlan-F.Inter v)

pub in_resolved-Not : (kept : Lists) (n : ℕ) (a : Box ResolvedPlan Global) → is_in_resolved kept (resolved.Not a) n ≡
    not (is_in_resolved kept a.value n)
in_resolved-Not kept n a =
    ap (λ (r : ResolvedPlan). is_in_resolved kept r n) (sym (rolls-Not a)) ∙ fold-roll-ResolvedPlan Bool
    (resolved_step (has_number n) (λ r. has_number n (kept.range r))) (ResolvedPlan-F.Not a)

-- a plan of parts is resolved by its resolved parts
pub resolved_union : (kept : Lists) (p : Plan) (ps : Vec Plan Global) (rs : Vec ResolvedPlan Global) →
    p ≡ plan.Union ps → AreResolved kept ps.items rs.items
    → IsResolved kept p (resolved.Union rs)
resolved_union kept p ps rs is each n =
    in_resolved-Union kept n rs ∙ ap (list_any (λ b. b)) (each n)
    ∙ sym (ap (λ (q : Plan). is_in_when kept true q n) is ∙ in_plan-Union _ _ _ ps)

pub resolved_inter : (kept : Lists) (p : Plan) (ps : Vec Plan Global) (rs : Vec ResolvedPlan Global) →
    p ≡ plan.Inter ps → AreResolved kept ps.items rs.items
    → IsResolved kept p (resolved.Inter rs)
resolved_inter kept p ps rs is each n =
    in_resolved-Inter kept n rs ∙ ap (list_all (λ b. b)) (each n)
    ∙ sym (ap (λ (q : Plan). is_in_when kept true q n) is ∙ in_plan-Inter _ _ _ ps)

pub resolved_minus : (kept : Lists) (p : Plan) (a b : Box Plan Global) (first second : ResolvedPlan) →
    p ≡ plan.Minus a b → IsResolved kept a.value first → IsResolved kept b.value second
    → (r : ResolvedPlan) → IsDifference first second r → IsResolved kept p r
resolved_minus kept p a b first second is one other r differs n =
    differs kept n ∙ ap₂ (λ (x y : Bool). x && not y) (one n) (other n)
    ∙ sym (ap (λ (q : Plan). is_in_when kept true q n) is ∙ in_plan-Minus _ _ _ a b)

-- one more plan of a row
pub resolved_more : (kept : Lists) (ps : List Plan) (i : ℕ) (p : Plan) (rs rs' : List ResolvedPlan)
    (r : ResolvedPlan) → AreResolved kept (take i ps) rs
    → i < length ps → p ≡ get_or ps i p → IsResolved kept p r → rs' ≡ rs ++ r ∷ [] →
    AreResolved kept (take (i + 1) ps) rs'
resolved_more kept ps i p rs rs' r each lt is one more n =
    let by_resolved : ResolvedPlan → Bool = λ x. is_in_resolved kept x n in
    let by_plan : Plan → Bool = λ q. is_in_when kept true q n in
    let taken : take (i + 1) ps ≡ take i ps ++ p ∷ [] = take_more ps i p lt ∙ ap (λ (x : Plan). take i ps ++ x ∷ [])
    (sym is) in
    ap (map by_resolved) more ∙ map-append by_resolved rs (r ∷ [])
    ∙ ap₂ (λ (xs : List Bool) (x : Bool). xs ++ x ∷ []) (each n) (one n)
    ∙ sym (ap (map by_plan) taken ∙ map-append by_plan (take i ps) (p ∷ []))

-- the whole row
pub resolved_all : (kept : Lists) (ps : List Plan) (i : ℕ) (rs : List ResolvedPlan) → AreResolved kept (take i ps)
    rs → length ps ≤ i → AreResolved kept ps rs
resolved_all kept ps i rs each end n = each n ∙ ap (map (λ (q : Plan). is_in_when kept true q n)) (take_all i ps end)
