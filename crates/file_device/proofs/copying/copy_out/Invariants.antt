use Rattle.std.proofs.Common.{drop, length}
use Rattle.file_device.specs.private.Pieces.{octets_in}
use Rattle.file_device.proofs.Copied.{IsCopied}
use Rattle.file_device.proofs.copying.copy_out.Given as goal

-- what is wanted is what was copied, and what is left
abbrev pub invariant-loop-piece : goal.invariant-loop-piece
invariant-loop-piece l = IsCopied (drop l.fn.start (octets_in l.pieces)) l.buffer l.done (length l.fn.buffer)
    (drop l.skip (octets_in (drop l.piece-index l.pieces)))
