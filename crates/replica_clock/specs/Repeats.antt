-- Which of the DOVIEWCHANGEs that a replica repeats at its beats are heard: each costs the node that hears it a look at
-- its whole log.
use Rattle.std.specs.Prelude.{◌≡◌, ℕ, ◌+◌, ◌<◌, ◌≤◌, Bool, true, false, cond, not, ◌&&◌, ◌==◌, nat_le, List, [], ◌∷◌, Option, Some, None}

-- the view of the replica's last one that was handed on, where there is one, and how many of that view were held back
-- since
pub record RepeatsValue : Type 0 where
  pub view : Option ℕ
  pub held_back : ℕ

-- it is the view of the last one that was handed on
abbrev pub is_known : Option ℕ → ℕ → Bool
is_known None view = false
is_known (Some known) view = known == view

-- One passes that is the first of its view, or comes after sixteen of its view that were held back.
abbrev pub passes : RepeatsValue → ℕ → Bool
passes r view = not (is_known r.view view && nat_le (r.held_back + 1) 16)

-- one came: it counts where it is held back
abbrev pub asked : RepeatsValue → ℕ → RepeatsValue
asked r view = cond (passes r view) r (record r { held_back = r.held_back + 1 })

-- one of this view was handed on
abbrev pub handed_on : ℕ → RepeatsValue
handed_on view = record { view = Some view; held_back = 0 }

-- Of these views, one after the other, messages came, and none was handed on: what passes may be lost before it is.
abbrev pub all_asked : List ℕ → RepeatsValue → RepeatsValue
all_asked [] r = r
all_asked (view ∷ views) r = all_asked views (asked r view)

-- how often a view is among these
abbrev pub times_among : ℕ → List ℕ → ℕ
times_among view [] = 0
times_among view (v ∷ vs) = cond (view == v) (times_among view vs + 1) (times_among view vs)

-- Whatever came before, and of whichever views: where sixteen of one view were among it, the next of that view passes.
abbrev pub ARepeatedMessagePasses : Type 0
ARepeatedMessagePasses = (r : RepeatsValue) (view : ℕ) (views : List ℕ) → 16 ≤ times_among view views →
    passes (all_asked views r) view ≡ true

-- One of another view than the last that was handed on always passes.
abbrev pub ANewViewPasses : Type 0
ANewViewPasses = (r : RepeatsValue) (view : ℕ) (views : List ℕ) → is_known r.view view ≡ false →
    passes (all_asked views r) view ≡ true

-- But once one is handed on, sixteen of its view don't pass, whatever comes between them.
abbrev pub RepeatedMessagesAreHeldBack : Type 0
RepeatedMessagesAreHeldBack = (view : ℕ) (views : List ℕ) → times_among view views < 16 →
    passes (all_asked views (handed_on view)) view ≡ false
