-- What search doesn't prove of `left`: what it returns, by lemmas of `LevelFacts` and `WayChanges`.
use Rattle.std.proofs.Common.{List, ap, ℕ}
use Rattle.dir_entry.specs.ldap_dn.Names.{RdnModel}
use Rattle.dir_tree.specs.Superiors.{place_at}
use Rattle.dir_tree.specs.private.Superiors.{step_at, below_at, number_among}
use Rattle.dir_tree.proofs.LevelFacts.{if_ok}
use Rattle.dir_tree.proofs.WayChanges.{left_after}
use Rattle.dir_tree.proofs.roots.Roots.left.Goals as goal

pub returns : goal.returns
returns c =
    if_ok _ _ c.parted_up.result
    (λ m y. left_after c.args.number (place_at c.args.self.now.entries c.args.number) c.args.self.now.reach
    (place_at c.args.self.now.entries)
    (below_at c.args.self.now.levels) (below_at c.in_ok-levels.levels) (below_at m) (step_at c.args.self.now.levels)
    (step_at c.in_ok-levels.levels) (step_at m) c.above_of-old.result c.in_ok-moving.moving
    c.requires c.above_of-old.ensures c.in_ok-moving.ensures c.in_ok-levels.ensures y
    (λ a x e. ap (λ (l : List (RdnModel × ℕ)). number_among x l) e))
    c.parted_up.ensures
