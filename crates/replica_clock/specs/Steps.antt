-- How long one step of a node lasts. Moments and times are numbers of one unit.
use Rattle.std.specs.Prelude.{◌≡◌, ℕ, ◌+◌, ◌-◌, ◌*◌, ◌≤◌, Bool, true, false, cond, ◌&&◌, ◌==◌, nat_le, List, [], ◌∷◌, Option, Some, None}
pub use Rattle.replica_clock.specs.declared.steps.Progress.{Progress}
use Rattle.replica_clock.specs.declared.steps.Progress.TheVariants.{Well, Stuck, Hung}
use Rattle.replica_clock.specs.Pace.{PaceValue, is_turn, turned}

-- what is known of the step that a node is at: how many came before it, and since when it was seen; none where it is at
-- none
pub record StepsValue : Type 0 where
  pub suspect : ℕ
  pub made : ℕ
  pub since : Option ℕ

-- for how long it has been at that step
abbrev pub lasted_since : Option ℕ → ℕ → ℕ
lasted_since None now = 0
lasted_since (Some since) now = now - since

-- After one suspect period at a step it is stuck, and after three it no longer says that it is there.
abbrev pub progress_after : ℕ → ℕ → Progress
progress_after suspect time = cond (nat_le (3 * suspect) time) Hung (cond (nat_le suspect time) Stuck Well)

-- how the step goes at a moment
abbrev pub progress : StepsValue → ℕ → Progress
progress s now = progress_after s.suspect (lasted_since s.since now)

-- whether that step was seen before
abbrev pub is_seen : Option ℕ → ℕ → ℕ → Bool
is_seen None own made = false
is_seen (Some since) own made = own == made

-- The node is seen at the step that follows on so many.
abbrev pub busied : StepsValue → ℕ → ℕ → StepsValue
busied s made now = cond (is_seen s.since s.made made) s (record s { made = made; since = Some now })

-- The node is seen at no step.
abbrev pub freed : StepsValue → StepsValue
freed s = record s { since = None }

-- The node is seen at the step that follows on so many, at each of these moments.
abbrev pub busied_at : ℕ → List ℕ → StepsValue → StepsValue
busied_at made [] s = s
busied_at made (now ∷ moments) s = busied_at made moments (busied s made now)

-- Whatever is seen of one step that never ends: three suspect periods after it was seen first it is hung.
abbrev pub AHungStepIsTold : Type 0
AHungStepIsTold = (s : StepsValue) (made first : ℕ) (moments : List ℕ) (now : ℕ) → s.since ≡ None
    → first + 3 * s.suspect ≤ now → progress (busied_at made (first ∷ moments) s) now ≡ Hung

-- And before one such period has passed since it was seen first, it counts as well.
abbrev pub AShortStepIsWell : Type 0
AShortStepIsWell = (s : StepsValue) (made first : ℕ) (moments : List ℕ) (now : ℕ) → s.since ≡ None
    → now + 1 ≤ first + s.suspect → 1 ≤ s.suspect → progress (busied_at made (first ∷ moments) s) now ≡ Well

-- At a step that lasts, a primary sends its last beat once more, beat by beat; where it is hung it is silent, so that
-- the others go on without it. Any other replica is silent: only a primary's beats are awaited.
abbrev pub beats_at : Bool → Progress → PaceValue → ℕ → Bool
beats_at leads Well p now = leads && is_turn p now
beats_at leads Stuck p now = leads && is_turn p now
beats_at leads Hung p now = false

-- what is known of its beats then
abbrev pub beaten_at : Bool → Progress → PaceValue → ℕ → PaceValue
beaten_at leads Well p now = cond leads (turned p now) p
beaten_at leads Stuck p now = cond leads (turned p now) p
beaten_at leads Hung p now = p

-- Whatever is seen of one step that never ends: a replica is silent three suspect periods after it was seen first.
abbrev pub AHungPrimaryIsSilent : Type 0
AHungPrimaryIsSilent = (leads : Bool) (s : StepsValue) (made first : ℕ) (moments : List ℕ) (p : PaceValue) (now : ℕ) →
    s.since ≡ None
    → first + 3 * s.suspect ≤ now → beats_at leads (progress (busied_at made (first ∷ moments) s) now) p now ≡ false

-- And before they have passed a primary says once a beat that it is there.
abbrev pub ABusyPrimaryIsHeard : Type 0
ABusyPrimaryIsHeard = (s : StepsValue) (made first : ℕ) (moments : List ℕ) (p : PaceValue) (now : ℕ) → s.since ≡ None
    → now + 1 ≤ first + 3 * s.suspect → 1 ≤ s.suspect → beats_at true (progress (busied_at made (first ∷ moments) s)
    now) p now ≡ is_turn p now
