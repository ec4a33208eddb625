-- What a walk over a set of numbers has before it: what contracts that aren't public say of it.
-- What public contracts say is in specs/Ahead.
use Rattle.std.specs.Prelude.{◌≡◌, ℕ, List, [], ◌∷◌, ◌++◌, Option, None, Some}
use Rattle.std.specs.Map.{keys_of}
use Rattle.shared_map.specs.Sets.{IsRising}
use Rattle.shared_map.specs.Ahead.{ahead}

-- a list is its first number, those of a run, and more; without a first number it is empty
abbrev pub IsHead : {X : Type 0} → List ℕ → Option ℕ → List (ℕ × X) → Type 0
IsHead ns None run = ns ≡ []
IsHead ns (Some n) run = (more : List ℕ) × (ns ≡ n ∷ (keys_of run ++ more))

-- what a walk keeps: its next number, and some of those that follow it
pub record IsAmid {X : Type 0} (ns : List ℕ) (next : Option ℕ) (run : List (ℕ × X)) : Type 0 where
  pub rising : IsRising ns
  pub head : IsHead (ahead ns next) next run
