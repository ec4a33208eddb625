-- Types that many SUPs lead to.
use Rattle.std.specs.Prelude.{ℕ, ◌*◌, ◌+◌, ◌<◌, zero, suc, List, [], ◌∷◌, ◌≡◌, Bool, true, false, map, length, slice_get, slice_set, Option, None, Some}
use Rattle.ldap_schema.specs.Schema.{TypeModel, superior_of}
use Rattle.std.specs.Option.{option_flatten}

-- on from the type of a number; nowhere, where there is none
abbrev pub then_up : Option ℕ → (ℕ → Option ℕ) → Option ℕ
then_up None f = None
then_up (Some u) f = f u

-- the type that so many SUPs lead to
abbrev pub up : List TypeModel → ℕ → ℕ → Option ℕ
up ts zero t = Some t
up ts (suc k) t = then_up (superior_of ts t) (λ u. up ts k u)

-- where steps lead from a type
abbrev pub step_at : List (Option ℕ) → ℕ → Option ℕ
step_at steps t = option_flatten (slice_get steps t)

-- the steps, each taken twice
abbrev pub doubled : List (Option ℕ) → List (Option ℕ)
doubled steps = map (λ o. then_up o (step_at steps)) steps

-- steps are so many SUPs
pub record IsUp (ts : List TypeModel) (m : ℕ) (steps : List (Option ℕ)) : Type 0 where
  pub count : length steps ≡ length ts
  pub is : (t : ℕ) → step_at steps t ≡ up ts m t

-- steps are of enough SUPs, where as much is left
abbrev pub IsUpBut : List TypeModel → ℕ → List (Option ℕ) → Type 0
IsUpBut ts left steps = (m : ℕ) × (length ts < m * (left + 1)) × IsUp ts m steps

-- a mark for the type that a step leads to
abbrev pub marked : List Bool → Option ℕ → List Bool
marked marks None = marks
marked marks (Some t) = slice_set marks t true

-- marks for the types that steps lead to
abbrev pub all_marked : List Bool → List (Option ℕ) → List Bool
all_marked marks [] = marks
all_marked marks (o ∷ os) = all_marked (marked marks o) os

-- whether there is a mark, and it is set
abbrev pub mark_in : Option Bool → Bool
mark_in None = false
mark_in (Some b) = b

-- a type has a mark
abbrev pub has_mark : List Bool → ℕ → Bool
has_mark marks t = mark_in (slice_get marks t)
