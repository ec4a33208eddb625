-- What is read of a stream of frames: what contracts that aren't public say of it.
-- What public contracts say is in specs/Reading.
use Rattle.std.specs.Prelude.{◌≤◌, ℕ, List, length, take, Option}
use Rattle.std.specs.Io.KnownBytes.{Consumes}

-- so many octets, which are now the first of a buffer, are taken off the stream
pub record IsFrontRead (input left : Option (List ℕ)) (buffer : List ℕ) (count : ℕ) : Type 0 where
  pub fits : count ≤ length buffer
  pub consumed : Consumes input left (take count buffer)
