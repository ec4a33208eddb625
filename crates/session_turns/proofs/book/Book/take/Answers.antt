-- What search doesn't prove of `take`: the invariant, by lemmas of `Standing`.
use Rattle.session_turns.specs.private.Listed.{place_at}
use Rattle.session_turns.proofs.Standing.{all_taken}
use Rattle.session_turns.proofs.book.Book.take.Goals as goal

pub invariant_of-self : goal.invariant_of-self
invariant_of-self c =
    all_taken c.self.inside.spots.items (place_at c.self.inside.queues) (place_at c.remove.new.self)
    c.self.inside.turn c.args.place c.in-Some-In.turn c.in-Some-In.queue
    (cc) c.self.invariant c.remove.ensures
