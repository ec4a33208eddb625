use Rattle.std.proofs.Common.{◌≡◌, ◌-◌, ◌++◌, reverse, map}
use Rattle.dir_tree.specs.Superiors.{name_up, place_at}
use Rattle.dir_tree.proofs.roots.Roots.rdns_up.Given as goal

abbrev pub invariant-loop-i : goal.invariant-loop-i
invariant-loop-i l = name_up (l.self.reach - l.i) (place_at l.self.entries) l.at ++ reverse
    (map (λ r. r.now) l.rdns.items) ≡ name_up l.self.reach (place_at l.self.entries) l.fn.number
