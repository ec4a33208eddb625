-- A journal over a device: what contracts that aren't public say of it.
-- What public contracts say is in specs/Journal.
use Rattle.std.specs.Prelude.{◌≡◌, ℕ, ◌+◌, List, ◌++◌, length, replicate}
use Rattle.journal.specs.Journal.{Reads}

-- Octets are read as these strings up to this place; so many zeros stand there, and so much room is there in all.
pub record Cleared (bs : List (List ℕ)) (end header room : ℕ) (image : List ℕ) : Type 0 where
  pub front : List ℕ
  pub behind : List ℕ
  pub is : image ≡ front ++ (replicate header 0 ++ behind)
  pub long : end ≡ length front
  pub reads : Reads bs front
  pub sum : header + length behind ≡ room
