use Rattle.std.proofs.Common.{◌-◌}
use Rattle.dir_tree.specs.Superiors.{place_at}
use Rattle.dir_tree.specs.private.Superiors.{below_at}
use Rattle.dir_tree.specs.private.Changes.{over_any}
use Rattle.dir_tree.proofs.WayChanges.{Joining}
use Rattle.dir_tree.proofs.roots.Roots.joined_up.Given as goal

abbrev pub invariant-loop-i : goal.invariant-loop-i
invariant-loop-i l =
    Joining (λ x. over_any (l.self.reach - l.i) (place_at l.self.entries) x l.at)
    (λ x. over_any l.self.reach (place_at l.self.entries) x l.fn.from) (below_at l.self.levels) l.except l.numbers
    (below_at l.fn.levels) (below_at l.changed)
