-- A device in memory: what contracts that aren't public say of it.
-- What public contracts say is in specs/Memory.
use Rattle.std.specs.Prelude.{◌≡◌, ◌+◌, ◌-◌, ◌^◌, min, ℕ, List}
use Rattle.view_store.specs.Memory.{Event, seen_after, MayLeave}

-- a count of failures, one more; the greatest number of 64 bits stays
abbrev pub counted : ℕ → ℕ
counted n = min (n + 1) (2 ^ 64 - 1)

-- the bytes are those that a read gives after these events, and a crash may leave just them
pub record IsReplayed (base : List ℕ) (events : List Event) (bytes : List ℕ) : Type 0 where
  pub same : bytes ≡ seen_after base events
  pub kept : MayLeave base events bytes
