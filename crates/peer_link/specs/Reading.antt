-- What is read of a stream of frames.
use Rattle.std.specs.Prelude.{◌≡◌, ℕ, List, [], ◌++◌, length, Option}
use Rattle.std.specs.Io.KnownBytes.{Consumes, IsAtEnd}

-- so many octets are taken off the stream and added to a frame
pub record HasRead (input left : Option (List ℕ)) (before after : List ℕ) (count : ℕ) : Type 0 where
  pub octets : List ℕ
  pub added : after ≡ before ++ octets
  pub length_is : length octets ≡ count
  pub consumed : Consumes input left octets

-- nothing is taken off the stream, which is at its end
pub record IsEnded (input left : Option (List ℕ)) : Type 0 where
  pub untouched : Consumes input left []
  pub at_end : IsAtEnd left
