use Rattle.std.proofs.Common.{◌≡◌, ◌++◌, map, reverse, length}
use Rattle.dir_tree.proofs.reading.push_back.Given as goal

abbrev pub invariant-loop-last : goal.invariant-loop-last
invariant-loop-last l = map (λ r. r.now) l.into.items ++ reverse l.rest ≡ map (λ r. r.now)
    l.initial.into.items ++ reverse l.rdns

abbrev pub decreases-loop-last : goal.decreases-loop-last
decreases-loop-last l = length l.rest
