-- What search doesn't prove of `put`: the invariant, what `index_mut` requires and the clause `ok`, by lemmas of
-- `Standing`.
use Rattle.std.proofs.Common.{rules}
use Rattle.std.proofs.lemmas.Option.{slice_get_within}
use Rattle.session_turns.specs.private.Listed.{place_at}
use Rattle.session_turns.specs.Places.{IsAway}
use Rattle.session_turns.specs.declared.spot.Spot.TheVariants.{Away}
use Rattle.session_turns.proofs.Standing.{all_put, all_same, has_put}
use Rattle.session_turns.proofs.book.Book.put.Goals as goal

pub invariant_of-self : goal.invariant_of-self
invariant_of-self c =
    all_same c.self.inside.spots.items (place_at c.self.inside.queues) (place_at c.insert.new.self) c.self.inside.turn
    c.self.invariant (search rules)

pub index_mut-requires : goal.index_mut-requires
index_mut-requires c =
    let away : IsAway c.self.inside.spots.items c.args.place = cc in
    let within = slice_get_within c.self.inside.spots.items c.args.place Away away in
    search (rules, within)

pub invariant_of-self-in-Away-1 : goal.invariant_of-self-in-Away-1
invariant_of-self-in-Away-1 c =
    all_put c.self.inside.spots.items (place_at c.self.inside.queues) (place_at c.insert.new.self) c.self.inside.turn
    c.args.place c.args.queue
    (cc) c.self.invariant (c.in_ok-insert.ensures.ok)

pub returns-in_ok-insert-clause-ok : goal.returns-in_ok-insert-clause-ok
returns-in_ok-insert-clause-ok c =
    rw (← c.self.view_is) (has_put c.self.inside.spots.items (place_at c.self.inside.queues) c.self.inside.turn
    c.args.place c.args.queue c.self.invariant)
