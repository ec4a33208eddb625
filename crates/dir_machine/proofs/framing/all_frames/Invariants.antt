use Rattle.std.proofs.Common.{◌≡◌, ◌++◌, length}
use Rattle.dir_machine.specs.Shown.{octets_of}
use Rattle.dir_machine.proofs.framing.all_frames.Given as goal

-- those that are handed out, and those that are still to come
abbrev pub invariant-loop-all : goal.invariant-loop-all
invariant-loop-all l = octets_of l.all.items ++ l.frames ≡ l.fn.frames

abbrev pub decreases-loop-all : goal.decreases-loop-all
decreases-loop-all l = length l.frames
