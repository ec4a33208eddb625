-- The start of a run: all numbers that may be found are among the candidates.
use Rattle.std.proofs.Common.{◌≡◌, ℕ, ◌+◌, ◌^◌, ◌<◌, ◌≤◌, Bool, true, false, ◌&&◌, List, [], ◌∷◌, length, cond, refl, sym, ap, ◌∙◌, arith}
use Rattle.std.specs.Prelude.{filter}
use Rattle.dir_index.specs.ldap_match.declared.truth.Truth.{Truth}
use Rattle.dir_index.specs.ldap_match.declared.truth.Truth.TheVariants.{True, False, Undefined}
use Rattle.dir_index.specs.Postings.{Lists, has_number, IsRising}
use Rattle.search_plans.specs.Streams.{Draws}
use Rattle.search_plans.specs.Sets.{is_in, Guides}
use Rattle.search_plans.specs.declared.plan.Plan.{Plan}
use Rattle.search_plans.specs.declared.resolved.ResolvedPlan.{ResolvedPlan}
use Rattle.search_plans.specs.Runs.{is_true, true_set, is_open, is_wanted}
use Rattle.search_plans.specs.private.Resolved.{is_in_resolved, IsResolvedFor}
use Rattle.search_plans.specs.private.Runs.{AreSameWithin, AreSure, IsUnderWay}
use Rattle.search_plans.specs.private.Sets.{is_in_when}

filter_short : (p : ℕ → Bool) (xs : List ℕ) → length (filter p xs) ≤ length xs
filter_short p [] = omega arith
filter_short p (x ∷ xs) =
    let less : length (filter p xs) ≤ length xs = filter_short p xs in
    elim (p x) as (λ v. length (cond v (x ∷ filter p xs) (filter p xs)) ≤ length (x ∷ xs))
    [ true ↦ omega arith | false ↦ omega arith ]

pub and_left : (a b : Bool) → (a && b) ≡ true → a ≡ true
and_left true b h = refl
and_left false b h = cc

true_of : (t : Truth) → is_true t ≡ true → t ≡ True
true_of True h = refl
true_of False h = cc
true_of Undefined h = cc

pub started_numbers : (must may : ℕ → Bool) (value : ℕ → Truth) (scope candidates : List ℕ) →
    Draws may scope candidates → Guides must value may scope
    → filter (is_wanted value scope) candidates ≡ true_set value scope
started_numbers must may value scope candidates draws guides =
    draws (λ n. is_true (value n)) (λ n s h. guides.complete n s (true_of _ h))

pub started : (must may : ℕ → Bool) (value : ℕ → Truth) (scope candidates : List ℕ) (looks : ℕ) → IsRising scope →
    IsRising candidates → Draws may scope candidates → Guides must value may scope
    → looks + length scope < 2 ^ 64 → IsUnderWay must may value scope candidates 0 looks
started must may value scope candidates looks rs rc draws guides room =
    let short : length (filter (is_open must may) scope) ≤ length scope = filter_short (is_open must may) scope in
    record {
      scope_rises = rs;
      guides = guides;
      left = sym (draws (is_open must may) (λ n s h. and_left _ _ h));
      rises = rc;
      within = omega arith;
      fits = omega arith;
      room = omega arith;
    }

-- A resolved plan has of the candidates in scope what the plan has, where they are in it if that is sure.
pub same_as_plan : (is_sure : Bool) (kept : Lists) (scope candidates : List ℕ) (p : Plan) (r : ResolvedPlan) →
    IsResolvedFor is_sure kept p r
    → (is_sure ≡ true → (n : ℕ) → has_number n candidates ≡ true → has_number n scope ≡ true → is_in kept scope p n ≡
    true) → AreSameWithin (is_in_resolved kept r) (is_in kept scope p) scope candidates
same_as_plan is_sure kept scope candidates p r resolved sure n there inside =
    let same : is_in kept scope p n ≡ is_in_when kept true p n = ap (λ (b : Bool). is_in_when kept b p n) inside in
    resolved n (λ known. sym same ∙ sure known n there inside) ∙ sym same

-- what surely must be found may be found
pub sure_may : (is_sure : Bool) (must may : ℕ → Bool) (value : ℕ → Truth) (scope candidates : List ℕ) →
    Guides must value may scope → AreSure is_sure must candidates
    → is_sure ≡ true → (n : ℕ) → has_number n candidates ≡ true → has_number n scope ≡ true → may n ≡ true
sure_may is_sure must may value scope candidates guides sure known n there inside = guides.complete n inside
    (guides.sound n inside (sure known n there))
