-- What search doesn't prove of `first`: the clause `some` and the clause `none`, by lemmas of `Standing`.
use Rattle.session_turns.specs.private.Listed.{place_at}
use Rattle.session_turns.proofs.Standing.{longest, none_in}
use Rattle.session_turns.proofs.book.Book.first.Goals as goal

pub returns-clause-some : goal.returns-clause-some
returns-clause-some c =
    rw (← c.self.view_is) (longest c.self.inside.spots.items (place_at c.self.inside.queues) c.self.inside.turn
    c.args.queue c.first.result c.self.invariant c.first.ensures.some)

pub returns-clause-none : goal.returns-clause-none
returns-clause-none c =
    rw (← c.self.view_is) (none_in c.self.inside.spots.items (place_at c.self.inside.queues) c.self.inside.turn
    c.args.queue c.first.result c.self.invariant c.first.ensures.none)
