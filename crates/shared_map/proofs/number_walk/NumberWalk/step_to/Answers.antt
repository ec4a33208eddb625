-- What search doesn't prove of `step_to`: what it returns, by lemmas of `Ahead`.
use Rattle.std.proofs.Common.{◌∙◌}
use Rattle.shared_map.proofs.Ahead.{at_least}
use Rattle.shared_map.proofs.number_walk.NumberWalk.step_to.Goals as goal

pub returns-then-least-number : goal.returns-then-least-number
returns-then-least-number c = at_least c.args.least c.in-Some.number c.self.inside.set.now _ c.self.inside.first
    c.self.view_is c.in-Some.is c.if-least-number.true ∙ c.loop-self.invariant
