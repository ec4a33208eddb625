use Rattle.std.proofs.Common.{◌≡◌, ◌-◌, reverse, slice_get}
use Rattle.dir_tree.specs.Superiors.{name_up, place_at}
use Rattle.dir_tree.proofs.roots.Roots.rdn_above.Given as goal

abbrev pub invariant-loop-i : goal.invariant-loop-i
invariant-loop-i l = slice_get (reverse (name_up (l.self.reach - l.i) (place_at l.self.entries) l.at)) l.left ≡
    slice_get (reverse (name_up l.self.reach (place_at l.self.entries) l.fn.number)) l.fn.up
