-- What search doesn't prove of `moved`: what it returns, by lemmas of `LevelFacts` and `WayChanges`.
use Rattle.std.proofs.Common.{List, ap, Some, ℕ}
use Rattle.dir_entry.specs.ldap_dn.Names.{RdnModel}
use Rattle.dir_tree.specs.Superiors.{place_at}
use Rattle.dir_tree.specs.private.Superiors.{step_at, below_at, number_among}
use Rattle.dir_tree.proofs.LevelFacts.{if_ok}
use Rattle.dir_tree.proofs.WayChanges.{moved_after}
use Rattle.dir_tree.proofs.roots.Roots.moved.Goals as goal

pub returns : goal.returns
returns c =
    if_ok _ _ c.joined_up.result
    (λ m y. moved_after c.args.number (place_at c.args.self.now.entries c.args.number) (Some c.args.place.now)
    c.args.self.now.reach (place_at c.args.self.now.entries)
    (below_at c.args.self.now.levels) (below_at c.in_ok-levels.levels) (below_at c.in_ok-levels-2.levels)
    (below_at c.in_ok-levels-3.levels) (below_at m)
    (step_at c.args.self.now.levels) (step_at c.in_ok-levels.levels) (step_at c.in_ok-levels-2.levels) (step_at m)
    c.above_of-old.result c.above_place-new.result c.in_ok-moving.moving
    c.requires c.above_of-old.ensures c.above_place-new.ensures c.in_ok-moving.ensures c.in_ok-levels.ensures
    c.in_ok-levels-2.ensures c.in_ok-levels-3.ensures y
    (λ a x e. ap (λ (l : List (RdnModel × ℕ)). number_among x l) e))
    c.joined_up.ensures
