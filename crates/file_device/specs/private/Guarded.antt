-- What the file of a stored view holds while its replica runs. What is found in octets is defined in view_store.
use Rattle.std.specs.Prelude.{◌≡◌, ◌≤◌, ℕ}
use Rattle.view_store.specs.Slots.{Finding, nothing, foreign, own}

-- A pair was found that a start of a replica stored: it has the restarts of that start, and this view or a later one.
abbrev pub IsOfStart : (restarts view : ℕ) → Finding → Type 0
IsOfStart restarts view nothing = ⊥
IsOfStart restarts view foreign = ⊥
IsOfStart restarts view (own pair) = (pair.restarts ≡ restarts) × (view ≤ pair.view)
