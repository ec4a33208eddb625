-- Bounds of the numbers in a part of a map.
use Rattle.std.specs.Prelude.{◌≡◌, ℕ, ◌<◌, ◌≤◌, List, Option, Some, is_some}
use Rattle.std.specs.Ordering.{nat_cmp}
use Rattle.std.specs.Map.{lookup}
use Rattle.std.specs.BTreeMap.{is_at}
use Rattle.std.specs.List.{AllByRecursion}

-- where there is an end, a number is below it
abbrev pub EndsBelow : Option ℕ → ℕ → Type 0
EndsBelow upto n = (u : ℕ) → upto ≡ Some u → n < u

-- the keys are numbers from one on, and below the end where there is one
pub record IsWithin {X : Type 0} (from : ℕ) (upto : Option ℕ) (es : List (ℕ × X)) : Type 0 where
  pub least : AllByRecursion (λ e. from ≤ e.0) es
  pub end : (u : ℕ) → upto ≡ Some u → AllByRecursion (λ e. e.0 < u) es

-- On the way down to a number: it is within the bounds of what is left, and stands there where it stands in the whole.
pub record IsOnWay {X : Type 0} (n from : ℕ) (upto : Option ℕ) (whole here : List (ℕ × X)) : Type 0 where
  pub least : from ≤ n
  pub end : EndsBelow upto n
  pub within : IsWithin from upto here
  pub same : is_some (lookup (is_at (nat_cmp n)) whole) ≡ is_some (lookup (is_at (nat_cmp n)) here)
