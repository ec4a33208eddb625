-- What a node of a shared map is seen as, and what holds of it: what contracts that aren't public say of it.
-- What public contracts say is in specs/Entries.
use Rattle.std.specs.Prelude.{◌≡◌, ℕ, ◌+◌, ◌<◌, ◌≤◌, max, List, [], ◌++◌, length, Option, None, Some}
use Rattle.std.specs.declared.sync.Arc.{Arc}
use Rattle.shared_map.specs.Entries.{DifferByAtMost}

-- the height h of what a node with sides l and r settles to
abbrev pub IsHeightAfterRebalance : ℕ → ℕ → ℕ → Type 0
IsHeightAfterRebalance l r h = (max l r ≤ h) × (h ≤ max l r + 1) × (DifferByAtMost 1 l r → h ≡ max l r + 1)

-- the tree t, which is seen as entries and a height, has the entries of both sides, and a height that theirs allow
pub record IsBalanced {K X Z : Type 0} (l r : List (K × X) × ℕ) (t : Arc (List (K × X) × ℕ) Z) : Type 0 where
  pub entries : t.value.0 ≡ l.0 ++ r.0
  pub height : IsHeightAfterRebalance l.1 r.1 t.value.1

-- what is left of a tree of height h, if anything: these entries, at most one level lower
abbrev pub IsLeft : {K X Z : Type 0} → ℕ → List (K × X) → Option (Arc (List (K × X) × ℕ) Z) → Type 0
IsLeft h es None = (es ≡ []) × (h ≡ 0)
IsLeft h es (Some t) = (t.value.0 ≡ es) × (0 < length es) × (t.value.1 ≤ h) × (h ≤ t.value.1 + 1)
