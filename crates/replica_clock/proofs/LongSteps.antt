-- A step that is seen again and again counts from when it was seen first.
use Rattle.std.proofs.Common.{◌≡◌, ℕ, ◌-◌, ◌*◌, List, [], ◌∷◌, Bool, true, false, cond, Option, None, Some, refl, ap, ◌∙◌, arith}
use Rattle.std.specs.Prelude.{nat_le}
use Rattle.std.proofs.lemmas.Bool.{eq-eqb, le-leb, lt-leb}
use Rattle.replica_clock.specs.Pace.{PaceValue, is_turn}
use Rattle.replica_clock.specs.Steps.{StepsValue, beats_at, progress, busied, busied_at, is_seen, AHungStepIsTold, AShortStepIsWell, AHungPrimaryIsSilent, ABusyPrimaryIsHeard}
use Rattle.replica_clock.specs.declared.steps.Progress.{Progress}
use Rattle.replica_clock.specs.declared.steps.Progress.TheVariants.{Well, Stuck, Hung}

-- the step as it was seen first
abbrev seen_at : StepsValue → ℕ → ℕ → StepsValue
seen_at s made first = record s { made = made; since = Some first }

-- it is seen once more
again : (s : StepsValue) (made first now : ℕ) → busied (seen_at s made first) made now ≡ seen_at s made first
again s made first now =
    ap (λ (b : Bool). cond b (seen_at s made first) (record s { made = made; since = Some now }))
    (eq-eqb made made refl)

-- what an observation doesn't change, no number of them does
still : (r : StepsValue) (made : ℕ) → ((now : ℕ) → busied r made now ≡ r) → (moments : List ℕ) →
    busied_at made moments r ≡ r
still r made h [] = refl
still r made h (now ∷ moments) = ap (λ (x : StepsValue). busied_at made moments x) (h now) ∙ still r made h moments

-- what is seen of one step
seen : (s : StepsValue) (made first : ℕ) (moments : List ℕ) → s.since ≡ None → busied_at made (first ∷ moments) s ≡
    seen_at s made first
seen s made first moments none =
    ap (λ (o : Option ℕ). busied_at made moments (cond (is_seen o s.made made) s (seen_at s made first))) none
    ∙ still (seen_at s made first) made (λ m. again s made first m) moments

pub hung : AHungStepIsTold
hung s made first moments now none late =
    ap (λ (x : StepsValue). progress x now) (seen s made first moments none)
    ∙ ap (λ (b : Bool). cond b Hung (cond (nat_le s.suspect (now - first)) Stuck Well))
    (le-leb (3 * s.suspect) (now - first) (omega (arith, late)))

pub well : AShortStepIsWell
well s made first moments now none early some =
    ap (λ (x : StepsValue). progress x now) (seen s made first moments none)
    ∙ ap (λ (b : Bool). cond b Hung (cond (nat_le s.suspect (now - first)) Stuck Well))
    (lt-leb (3 * s.suspect) (now - first) (omega (arith, early, some)))
    ∙ ap (λ (b : Bool). cond b Stuck Well) (lt-leb s.suspect (now - first) (omega (arith, early, some)))

pub silent : AHungPrimaryIsSilent
silent leads s made first moments p now none late = ap (λ (x : Progress). beats_at leads x p now)
    (hung s made first moments now none late)

-- a step that isn't hung holds up no beat
goes_on : (b : Bool) (p : PaceValue) (now : ℕ) → beats_at true (cond b Stuck Well) p now ≡ is_turn p now
goes_on true p now = refl
goes_on false p now = refl

pub heard : ABusyPrimaryIsHeard
heard s made first moments p now none early some =
    ap (λ (x : StepsValue). beats_at true (progress x now) p now) (seen s made first moments none)
    ∙ ap (λ (b : Bool). beats_at true (cond b Hung (cond (nat_le s.suspect (now - first)) Stuck Well)) p now)
    (lt-leb (3 * s.suspect) (now - first) (omega (arith, early, some)))
    ∙ goes_on (nat_le s.suspect (now - first)) p now
