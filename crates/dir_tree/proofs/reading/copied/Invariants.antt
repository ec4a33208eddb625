use Rattle.std.proofs.Common.{◌≡◌, map, take}
use Rattle.dir_tree.proofs.reading.copied.Given as goal

abbrev pub invariant-loop-rdn : goal.invariant-loop-rdn
invariant-loop-rdn l = l.copy.items ≡ map (λ r. r.now) (take l.rdn-index l.rdns)
