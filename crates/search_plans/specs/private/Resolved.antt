-- The sets of plans whose posting lists were looked up: whether a number in scope is in one, by what its lists still
-- have to give.
use Rattle.std.specs.Prelude.{◌≡◌, ℕ, ◌≤◌, Bool, true, false, ◌&&◌, not, List, map}
use Rattle.std.specs.List.{list_any, list_all}
use Rattle.dir_index.specs.Postings.{Lists, has_number}
use Rattle.dir_index.specs.declared.posting.Range.{Range}
use Rattle.search_plans.specs.declared.plan.Plan.{Plan}
use Rattle.search_plans.specs.declared.resolved.ResolvedPlan.{ResolvedPlan, fold-ResolvedPlan}
use Rattle.search_plans.specs.declared.resolved.ResolvedPlan.TheOpen.{ResolvedPlan-F}
use Rattle.search_plans.specs.private.Sets.{is_in_when}

-- One level of a resolved plan: whether a number in scope is in it, from whether it is in a set and in a range.
abbrev pub resolved_step : (List ℕ → Bool) → (Range → Bool) → ResolvedPlan-F Bool → Bool
resolved_step s r ResolvedPlan-F.Empty = false
resolved_step s r ResolvedPlan-F.Scope = true
resolved_step s r (ResolvedPlan-F.Set x) = s x
resolved_step s r (ResolvedPlan-F.Range x) = r x.now
resolved_step s r (ResolvedPlan-F.Union v) = list_any (λ b. b) v.items
resolved_step s r (ResolvedPlan-F.Inter v) = list_all (λ b. b) v.items
resolved_step s r (ResolvedPlan-F.Not a) = not a.value

-- whether a number in scope is in the set of a resolved plan
abbrev pub is_in_resolved : Lists → ResolvedPlan → ℕ → Bool
is_in_resolved kept r n = fold-ResolvedPlan Bool (resolved_step (has_number n) (λ x. has_number n (kept.range x))) r

-- a resolved plan has the numbers in scope that the plan has
abbrev pub IsResolved : Lists → Plan → ResolvedPlan → Type 0
IsResolved kept p r = (n : ℕ) → is_in_resolved kept r n ≡ is_in_when kept true p n

-- the same of each plan of a row
abbrev pub AreResolved : Lists → List Plan → List ResolvedPlan → Type 0
AreResolved kept ps rs = (n : ℕ) → map (λ r. is_in_resolved kept r n) rs ≡ map (λ p. is_in_when kept true p n) ps

-- A resolved plan has the numbers in scope that the plan has. Where all numbers that are asked about are known to be in
-- the plan, this is said of such numbers alone.
abbrev pub IsResolvedFor : Bool → Lists → Plan → ResolvedPlan → Type 0
IsResolvedFor is_sure kept p r =
    (n : ℕ) → (is_sure ≡ true → is_in_when kept true p n ≡ true) → is_in_resolved kept r n ≡ is_in_when kept true p n

-- the numbers in scope of the first plan that are not of the second
abbrev pub IsDifference : ResolvedPlan → ResolvedPlan → ResolvedPlan → Type 0
IsDifference first second r = (kept : Lists) (n : ℕ) → is_in_resolved kept r n ≡ (is_in_resolved kept first n
    && not (is_in_resolved kept second n))

-- two rows of resolved plans have, plan by plan, the same of the numbers from one on
abbrev pub AreSameInRow : ℕ → Lists → List ResolvedPlan → List ResolvedPlan → Type 0
AreSameInRow least kept rs qs = (n : ℕ) → least ≤ n → map (λ r. is_in_resolved kept r n) rs ≡
    map (λ q. is_in_resolved kept q n) qs
