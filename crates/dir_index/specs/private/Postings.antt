-- The posting lists of entries: what contracts that aren't public say of it.
-- What public contracts say is in specs/Postings.
use Rattle.std.specs.Prelude.{◌≡◌, ℕ, List, ◌||◌}
use Rattle.std.specs.List.{list_any, AllByRecursion}
use Rattle.dir_index.specs.Postings.{has_number, IsRising}

-- each list rises
abbrev pub AreRising : List (List ℕ) → Type 0
AreRising ls = AllByRecursion IsRising ls

-- Lists that together have what some lists had and the numbers of one more, and nothing else.
abbrev pub HaveTogether : List (List ℕ) → List ℕ → List (List ℕ) → Type 0
HaveTogether before ns after = (n : ℕ) → list_any (has_number n) after ≡ (list_any (has_number n) before || has_number
    n ns)
