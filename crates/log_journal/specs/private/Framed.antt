-- The octets of a batch: what contracts that aren't public say of it.
-- What public contracts say is in specs/Framed.
use Rattle.std.specs.Prelude.{◌≡◌, ◌<◌, ◌^◌, ℕ, List, length}
use Rattle.journal.specs.Frames.{frames, recorded}

-- Octets are the frames of the strings that they stand for, and fewer than 2 ^ 35.
pub record IsFramed (octets : List ℕ) : Type 0 where
  pub framed : octets ≡ frames (recorded octets)
  pub short : length octets < 2 ^ 35
