-- Who drives the node of a replica with a journal.
use Rattle.std.specs.Prelude.{◌≡◌, ◌⊎◌, ℕ, Bool, IsTrue}
use Rattle.node_gate.specs.declared.drivers.Driver.{Driver}
use Rattle.node_gate.specs.declared.drivers.Driver.TheVariants as driver

-- No event is left that nobody looks after: none waits, or somebody drives who looks before he ends, or the thread is
-- called.
abbrev pub IsLookedAfter : Driver → ℕ → Bool → Type 0
IsLookedAfter who waiting is_called = (waiting ≡ 0) ⊎ (who ≡ driver.Bringer) ⊎ (who ≡ driver.Thread) ⊎ IsTrue is_called
