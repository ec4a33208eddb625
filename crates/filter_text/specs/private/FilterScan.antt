-- Filters round filters (RFC 4515 3, filter).
use Rattle.std.specs.Prelude.{ℕ, List, [], ◌∷◌, Bool, true, false, cond, ◌||◌, Option, None, Some, nat_eq}
use Rattle.std.specs.Option.{option_map}
use Rattle.filter_text.specs.private.ItemScan.{item_step, item_ends}
use Rattle.filter_text.specs.declared.place.ItemPlace.TheVariants.{Start}
use Rattle.filter_text.specs.declared.place.Around.{Around}
use Rattle.filter_text.specs.declared.place.Around.TheVariants.{Row, Negation}
use Rattle.filter_text.specs.declared.place.ScanState.{ScanState}
use Rattle.filter_text.specs.declared.place.ScanState.TheVariants.{Opening, Inside, InItem, Behind}

-- a place, and what is round it, the innermost first
pub record Spot : Type 0 where
  pub place : ScanState
  pub around : List Around

-- a place with this round it
abbrev pub at : ScanState → List Around → Spot
at p around = record { place = p; around = around }

-- behind `(`
abbrev pub inside_step : List Around → ℕ → Option Spot
inside_step around c =
    cond (nat_eq c 38 || nat_eq c 124) (Some (at Behind (Row ∷ around)))
    (cond (nat_eq c 33) (Some (at Opening (Negation ∷ around)))
    (option_map (λ s. at (InItem s) around) (item_step Start c)))

-- behind a filter, or at the beginning of a row
abbrev pub behind_step : List Around → ℕ → Option Spot
behind_step [] c = None
behind_step (Row ∷ around) c =
    cond (nat_eq c 40) (Some (at Inside (Row ∷ around))) (cond (nat_eq c 41) (Some (at Behind around)) None)
behind_step (Negation ∷ around) c = cond (nat_eq c 41) (Some (at Behind around)) None

-- a further octet of a filter, from each place
abbrev pub step_at : ScanState → List Around → ℕ → Option Spot
step_at Opening around c = cond (nat_eq c 40) (Some (at Inside around)) None
step_at Inside around c = inside_step around c
step_at (InItem s) around c =
    cond (nat_eq c 41) (cond (item_ends s) (Some (at Behind around)) None)
    (option_map (λ t. at (InItem t) around) (item_step s c))
step_at Behind around c = behind_step around c

-- a further octet of a filter
abbrev pub filter_step : Spot → ℕ → Option Spot
filter_step s c = step_at s.place s.around c

-- nothing is round the place
abbrev pub is_empty : List Around → Bool
is_empty [] = true
is_empty (a ∷ around) = false

-- a filter may end at this place
abbrev pub ends_at : ScanState → List Around → Bool
ends_at Opening around = false
ends_at Inside around = false
ends_at (InItem s) around = false
ends_at Behind around = is_empty around

-- a filter may end here
abbrev pub filter_ends : Spot → Bool
filter_ends s = ends_at s.place s.around
