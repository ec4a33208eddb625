-- Messages that are repeated are held back, but not all.
use Rattle.std.proofs.Common.{◌≡◌, ℕ, ◌+◌, ◌<◌, ◌≤◌, ◌&&◌, ◌==◌, List, [], ◌∷◌, Bool, true, false, cond, not, Option, None, Some, inl, inr, refl, sym, ap, ◌∙◌, arith}
use Rattle.std.specs.Prelude.{nat_le}
use Rattle.std.proofs.lemmas.Bool.{and_right, cases_Bool, eq-eqb, eqb-true, false≢true, le-leb, leb-false, lt-leb}
use Rattle.replica_clock.specs.Repeats.{RepeatsValue, all_asked, asked, handed_on, is_known, passes, times_among}
use Rattle.replica_clock.specs.Repeats.{ARepeatedMessagePasses, ANewViewPasses, RepeatedMessagesAreHeldBack}

-- whether it passes or not, the view stays
same_view_by : (b : Bool) (r : RepeatsValue) → (cond b r (record r { held_back = r.held_back + 1 })).view ≡ r.view
same_view_by true r = refl
same_view_by false r = refl

same_view : (views : List ℕ) (r : RepeatsValue) → (all_asked views r).view ≡ r.view
same_view [] r = refl
same_view (v ∷ vs) r = same_view vs (asked r v) ∙ same_view_by (passes r v) r

-- another view passes
pub first_passes : ANewViewPasses
first_passes r view views e =
    ap (λ (o : Option ℕ). not (is_known o view && nat_le ((all_asked views r).held_back + 1) 16)) (same_view views r)
    ∙ ap (λ (b : Bool). not (b && nat_le ((all_asked views r).held_back + 1) 16)) e

one_held : (b : Bool) (r : RepeatsValue) → (cond b r (record r { held_back = r.held_back + 1 })).held_back ≡
    cond b r.held_back (r.held_back + 1)
one_held true r = refl
one_held false r = refl

-- how many are held back after one more came
held : (r : RepeatsValue) (view v : ℕ) → r.view ≡ Some view → (asked r v).held_back ≡
    cond (not ((view == v) && nat_le (r.held_back + 1) 16)) r.held_back (r.held_back + 1)
held r view v e =
    one_held (passes r v) r
    ∙ ap (λ (o : Option ℕ). cond (not (is_known o v && nat_le (r.held_back + 1) 16)) r.held_back (r.held_back + 1)) e

-- what is missing of sixteen is no more than what comes
step : (same few : Bool) (h t : ℕ) → nat_le (h + 1) 16 ≡ few → 16 ≤ cond same (t + 1) t + h →
    16 ≤ t + cond (not (same && few)) h (h + 1)
step true true h t e m = omega (arith, m)
step true false h t e m = omega (arith, leb-false (h + 1) 16 e)
step false few h t e m = omega (arith, m)

enough : (views : List ℕ) (r : RepeatsValue) (view : ℕ) → r.view ≡ Some view → 16 ≤ times_among view views +
    r.held_back → 16 ≤ (all_asked views r).held_back
enough [] r view e m = omega (arith, m)
enough (v ∷ vs) r view e m =
    enough vs (asked r v) view (same_view_by (passes r v) r ∙ e)
    (omega (
      arith,
      held r view v e,
      step (view == v) (nat_le (r.held_back + 1) 16) r.held_back (times_among view
          vs) refl m,
    ))

-- the view that is known
known_is : (o : Option ℕ) (view : ℕ) → is_known o view ≡ true → o ≡ Some view
known_is None view e = absurd (false≢true e)
known_is (Some k) view e = ap (λ (n : ℕ). Some n) (eqb-true k view e)

not_right : (a b : Bool) → b ≡ false → not (a && b) ≡ true
not_right a b e = ap (λ (x : Bool). not x) (and_right a b e)

pub passes_at_times : ARepeatedMessagePasses
passes_at_times r view views m = elim (cases_Bool (is_known r.view view)) [
  | inl e ↦
      let h : 16 ≤ (all_asked views r).held_back = enough views r view (known_is r.view view e) (omega (arith, m)) in
      not_right (is_known (all_asked views r).view view) (nat_le ((all_asked views r).held_back + 1) 16)
      (lt-leb ((all_asked views r).held_back + 1) 16 (omega (arith, h)))
  | inr e ↦ first_passes r view views e
]

-- no more is held back than comes
step_most : (same few : Bool) (h t : ℕ) → cond (not (same && few)) h (h + 1) + t ≤ h + cond same (t + 1) t
step_most true true h t = omega arith
step_most true false h t = omega arith
step_most false few h t = omega arith

few_held : (views : List ℕ) (r : RepeatsValue) (view : ℕ) → r.view ≡ Some view → (all_asked views r).held_back ≤
    r.held_back + times_among view views
few_held [] r view e = omega arith
few_held (v ∷ vs) r view e =
    omega (
      arith,
      few_held vs (asked r v) view (same_view_by (passes r v) r ∙ e),
      held r view v e,
      step_most (view == v) (nat_le (r.held_back + 1) 16) r.held_back (times_among view vs),
    )

pub are_held_back : RepeatedMessagesAreHeldBack
are_held_back view views few =
    ap (λ (o : Option ℕ). not (is_known o view && nat_le (h + 1) 16)) (same_view views (handed_on view))
    ∙ ap (λ (b : Bool). not (b && nat_le (h + 1) 16)) (eq-eqb view view refl)
    ∙ ap (λ (b : Bool). not b) (le-leb (h + 1) 16 (omega (arith, few, few_held views (handed_on view) view refl)))
  where
    h : ℕ
    h = (all_asked views (handed_on view)).held_back
