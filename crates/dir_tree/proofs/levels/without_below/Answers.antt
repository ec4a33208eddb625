-- What search doesn't prove of `without_below`: what it returns, by lemmas of `LevelFacts`.
use Rattle.std.proofs.Common.{ℕ, List, ap, ◌∙◌}
use Rattle.dir_tree.specs.declared.place.Below.{Below}
use Rattle.dir_tree.specs.private.Superiors.{below_at}
use Rattle.dir_tree.proofs.LevelFacts.{if_ok, below_out}
use Rattle.dir_tree.proofs.levels.without_below.Goals as goal

pub returns : goal.returns
returns c = if_ok _ _ c.without.result (λ m e a. ap (λ (l : List (ℕ × Below)). below_at l a) e
    ∙ below_out c.args.levels.now c.args.number c.rises.ensures a) c.without.ensures
