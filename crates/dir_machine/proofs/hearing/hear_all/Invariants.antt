use Rattle.std.proofs.Common.{take}
use Rattle.dir_machine.specs.Shown.{octets_of}
use Rattle.dir_machine.specs.private.Hearing.{Hears}
use Rattle.dir_machine.proofs.hearing.hear_all.Given as goal

-- what came of the frames so far
abbrev pub invariant-loop-frame : goal.invariant-loop-frame
invariant-loop-frame l = Hears l.cluster l.fn.gathering (octets_of (take l.frame-index l.frames)) l.last l.gathering
