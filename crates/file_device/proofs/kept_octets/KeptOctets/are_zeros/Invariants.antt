use Rattle.std.proofs.Common.{◌≡◌, drop}
use Rattle.file_device.specs.private.Pieces.{are_zeros}
use Rattle.file_device.proofs.kept_octets.KeptOctets.are_zeros.Given as goal

-- those that are left decide
abbrev pub invariant-loop-piece : goal.invariant-loop-piece
invariant-loop-piece l = are_zeros l.self.pieces.items ≡ are_zeros (drop l.piece-index l.self.pieces.items)
