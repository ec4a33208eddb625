use Rattle.std.proofs.Common.{take}
use Rattle.dir_machine.specs.Shown.{octets_of}
use Rattle.dir_machine.specs.private.Hearing.{AreAt}
use Rattle.dir_machine.proofs.hearing.copy_frames.Given as goal

-- the frames at the places so far
abbrev pub invariant-loop-place : goal.invariant-loop-place
invariant-loop-place l = AreAt l.replica l.shown (take l.place-index l.places) (octets_of l.frames.items)
