use Rattle.std.proofs.Common.{◌-◌, ◌≤◌}
use Rattle.peer_link.specs.Reading.{HasRead}
use Rattle.peer_link.proofs.reading.read_more.Given as goal

-- what is read so far
abbrev pub invariant-loop-left : goal.invariant-loop-left
invariant-loop-left g l = (l.left ≤ l.count) × HasRead (g.R.Read.remaining l.fn.reader) (g.R.Read.remaining l.reader)
    l.fn.frame.items l.frame.items (l.count - l.left)

abbrev pub decreases-loop-left : goal.decreases-loop-left
decreases-loop-left g l = l.left
