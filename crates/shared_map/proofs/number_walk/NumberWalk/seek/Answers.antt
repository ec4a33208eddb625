-- What search doesn't prove of `seek`: what it returns, by lemmas of `Ahead`.
use Rattle.shared_map.proofs.Ahead.{at_least}
use Rattle.shared_map.proofs.number_walk.NumberWalk.seek.Goals as goal

pub returns-else-number-least : goal.returns-else-number-least
returns-else-number-least c = at_least c.args.least c.in-Some.number c.self.inside.set.now _ c.self.inside.first
    c.self.view_is c.in-Some.is c.if-number-least.false
