use Rattle.std.proofs.Common.{◌≡◌, length}
use Rattle.dir_index.specs.Postings.{stands_in}
use Rattle.dir_index.proofs.membership.stands_in.Given as goal

abbrev pub invariant-loop-behind : goal.invariant-loop-behind
invariant-loop-behind l = stands_in l.run l.rest ≡ stands_in l.run l.octets

abbrev pub decreases-loop-behind : goal.decreases-loop-behind
decreases-loop-behind l = length l.rest
