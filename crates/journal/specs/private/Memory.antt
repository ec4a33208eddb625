-- A device in memory: what contracts that aren't public say of it.
-- What public contracts say is in specs/Memory.
use Rattle.std.specs.Prelude.{◌≡◌, ◌≤◌, ◌+◌, ◌-◌, ◌^◌, min, ℕ, List, [], ◌∷◌, length}
use Rattle.journal.specs.Memory.{Event, nothing, write, grow, settle, seen_after, MayLeave}

-- a count of failures, one more; the greatest number of 64 bits stays
abbrev pub counted : ℕ → ℕ
counted n = min (n + 1) (2 ^ 64 - 1)

-- A write is within so many octets.
abbrev pub FitsIn : Event → ℕ → Type 0
FitsIn (write at octets is_done) size = at + length octets ≤ size
FitsIn nothing size = Unit {0}
FitsIn (grow octets is_done) size = Unit {0}
FitsIn settle size = Unit {0}

-- Each write was within what a read gave before it.
abbrev pub AreWithin : List ℕ → List Event → Type 0
AreWithin base [] = Unit {0}
AreWithin base (e ∷ older) = FitsIn e (length (seen_after base older)) × AreWithin base older

-- the bytes are those that a read gives after these events, and a crash may leave just them
pub record IsReplayed (base : List ℕ) (events : List Event) (bytes : List ℕ) : Type 0 where
  pub same : bytes ≡ seen_after base events
  pub kept : MayLeave base events bytes
  pub long : (c : List ℕ) → MayLeave base events c → length bytes ≤ length c
  pub within : AreWithin base events
