use Rattle.std.proofs.Common.{◌-◌, [], ◌∷◌, None}
use Rattle.dir_tree.specs.Superiors.{place_at}
use Rattle.dir_tree.specs.private.Superiors.{below_at}
use Rattle.dir_tree.specs.private.Changes.{over_any}
use Rattle.dir_tree.proofs.WayChanges.{Joining}
use Rattle.dir_tree.proofs.roots.joined_above.Given as goal

abbrev pub invariant-loop-i : goal.invariant-loop-i
invariant-loop-i l =
    Joining (λ x. over_any (l.fn.reach - l.i) (place_at l.entries) x l.at)
    (λ x. over_any l.fn.reach (place_at l.entries) x l.fn.from) (below_at l.fn.levels) None (l.number ∷ [])
    (below_at l.fn.levels) (below_at l.changed)
