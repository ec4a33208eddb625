-- What search doesn't prove of `seek_above`: what it returns, by lemmas of `Ahead`.
use Rattle.std.proofs.Common.{◌∙◌}
use Rattle.shared_map.proofs.Ahead.{above_least}
use Rattle.shared_map.proofs.number_walk.NumberWalk.seek_above.Goals as goal

pub returns-then-is_far : goal.returns-then-is_far
returns-then-is_far c = c.self-then-is_far.view_is ∙ c.walk_after.ensures ∙ above_least c.args.least c.args.number
    c.self.inside.set.now _ c.self.inside.first c.self.view_is c.requires.at c.requires.below
