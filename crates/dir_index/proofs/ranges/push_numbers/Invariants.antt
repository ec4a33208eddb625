use Rattle.std.proofs.Common.{◌≡◌, ◌++◌, length}
use Rattle.dir_index.proofs.ranges.push_numbers.Given as goal

abbrev pub invariant-loop-number : goal.invariant-loop-number
invariant-loop-number l = l.into.items ++ l.walk ≡ l.fn.into.items ++ l.numbers

abbrev pub decreases-loop-number : goal.decreases-loop-number
decreases-loop-number l = length l.walk
