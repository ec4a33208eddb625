-- How many updates a talk asks for.
use Rattle.std.specs.Prelude.{◌≡◌, ◌≤◌, ℕ, ◌+◌, min, List, [], ◌∷◌}
use Rattle.directory_api.specs.Talk.{Exchange, asked_role, learned, searched, compared, updated, Along}
use Rattle.directory_api.specs.Pairs.{both}

-- how many updates an exchange asks for
abbrev pub updates_of : {T : Type 0} → Exchange T → ℕ
updates_of (asked_role role told) = 0
updates_of (learned told) = 0
updates_of (searched number request look) = 0
updates_of (compared number request look) = 0
updates_of (updated client number update ended) = 1

-- how many a talk asks for
abbrev pub updates_in : {T : Type 0} → List (Exchange T) → ℕ
updates_in [] = 0
updates_in (x ∷ xs) = updates_of x + updates_in xs

-- the greatest count that is told, which stands for any greater one too
abbrev pub greatest_count : ℕ
greatest_count = 18446744073709551615

-- a gate counts what it is asked for: with each exchange that it allows, its count rises by the updates of that, up to
-- the greatest
abbrev pub Counts : {G T : Type 0} → (G → ℕ) → (G → Exchange T → G → Type 0) → Type 0
Counts {G} {T} count allows = (d e : G) (x : Exchange T) → allows d x e → count e ≡ min (count d + updates_of x)
    greatest_count

-- Along a talk with a look and a gate that counts, the gate's count rises by exactly the updates of the talk, up to the
-- greatest.
abbrev pub PairCounts : {L G T : Type 0} → (L → Exchange T → L → Type 0) → (G → Exchange T → G → Type 0) → (G → ℕ) →
    Type 0
PairCounts {L} {G} {T} look gate count =
    (d e : L × G) (talk : List (Exchange T)) → count d.1 ≤ greatest_count → Along (both look gate) d talk e
    → count e.1 ≡ min (count d.1 + updates_in talk) greatest_count
