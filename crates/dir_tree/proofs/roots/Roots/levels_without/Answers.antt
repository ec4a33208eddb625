-- What search doesn't prove of `levels_without`: what it returns, by lemmas of `LevelFacts` and `TreeSteps`.
use Rattle.std.proofs.Common.{refl}
use Rattle.dir_entry.specs.ldap_dn.Names.{rdns}
use Rattle.dir_tree.specs.Superiors.{place_at}
use Rattle.dir_tree.specs.private.Superiors.{step_at, below_at}
use Rattle.dir_tree.proofs.LevelFacts.{if_ok}
use Rattle.dir_tree.proofs.TreeSteps.{gone_after}
use Rattle.dir_tree.proofs.roots.Roots.levels_without.Goals as goal

pub returns : goal.returns
returns c =
    if_ok _ _ c.without_below.result
    (λ m e. gone_after (rdns c.args.self.now.suffix) c.args.self.now.root c.args.number c.args.self.now.reach
    (place_at c.args.self.now.entries) (step_at c.args.self.now.levels) (step_at c.in_ok-levels.levels)
    (below_at c.args.self.now.levels) (below_at c.in_ok-levels.levels) (below_at m) c.requires.hung c.requires.listed
    c.requires.leaf c.in_ok-levels.ensures e (λ a x. refl))
    c.without_below.ensures
