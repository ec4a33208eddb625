use Rattle.std.proofs.Common.{◌≡◌, ◌&&◌, length}
use Rattle.std.specs.Str.{bytes_eq}
use Rattle.request_checks.proofs.sameness.is_same.Given as goal

abbrev pub invariant-loop-left : goal.invariant-loop-left
invariant-loop-left l = (l.is_so_far && bytes_eq l.left l.right) ≡ bytes_eq l.one l.other

abbrev pub decreases-loop-left : goal.decreases-loop-left
decreases-loop-left l = length l.left
