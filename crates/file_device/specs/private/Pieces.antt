-- The octets of a file that are kept in memory, in pieces.
use Rattle.std.specs.Prelude.{ℕ, Bool, true, ◌&&◌, ◌==◌, List, [], ◌∷◌, ◌++◌, Vec}
use Rattle.journal.specs.Frames.{nonzeros}

-- the octets of these pieces, one behind another
abbrev pub octets_in : {A : Type 0} → List (Vec ℕ A) → List ℕ
octets_in [] = []
octets_in (piece ∷ pieces) = piece.items ++ octets_in pieces

-- no octet of these pieces is another than 0
abbrev pub are_zeros : {A : Type 0} → List (Vec ℕ A) → Bool
are_zeros [] = true
are_zeros (piece ∷ pieces) = nonzeros piece.items == 0 && are_zeros pieces
