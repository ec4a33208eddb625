use Rattle.std.proofs.Common.{◌≡◌, ◌≤◌, ◌-◌, ◌+◌, length}
use Rattle.dir_tree.specs.Superiors.{name_up, place_at}
use Rattle.dir_tree.proofs.roots.Roots.count_of_rdns.Given as goal

abbrev pub invariant-loop-i : goal.invariant-loop-i
invariant-loop-i l = (l.count ≤ l.i) × (length (name_up (l.self.reach - l.i) (place_at l.self.entries) l.at) +
    l.count ≡ length (name_up l.self.reach (place_at l.self.entries) l.fn.number))
