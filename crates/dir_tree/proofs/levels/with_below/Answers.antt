-- What search doesn't prove of `with_below`: what it returns, by lemmas of `LevelFacts`.
use Rattle.std.proofs.Common.{ℕ, List, ap, ◌∙◌}
use Rattle.dir_tree.specs.declared.place.Below.{Below}
use Rattle.dir_tree.specs.private.Superiors.{below_at}
use Rattle.dir_tree.proofs.LevelFacts.{if_ok, below_put}
use Rattle.dir_tree.proofs.levels.with_below.Goals as goal

pub returns : goal.returns
returns c = if_ok _ _ c.with.result (λ m e a. ap (λ (l : List (ℕ × Below)). below_at l a) e
    ∙ below_put c.args.levels.now c.args.number c.args.below a) c.with.ensures
