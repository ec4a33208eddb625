-- Reads of a stream, one after the other.
use Rattle.std.proofs.Common.{ℕ, List, [], Option, refl, sym, append-nil}
use Rattle.std.proofs.KnownBytes.{Consumes-nil}
use Rattle.peer_link.specs.Reading.{HasRead}

pub nothing_read : (input : Option (List ℕ)) (octets : List ℕ) → HasRead input input octets octets 0
nothing_read input octets = record {
  octets = [];
  added = sym (append-nil octets);
  length_is = refl;
  consumed =
      Consumes-nil input;
}
