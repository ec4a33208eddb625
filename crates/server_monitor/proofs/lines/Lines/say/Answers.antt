-- What search doesn't prove of `say`: the clause `said`, by lemmas of `Noting`.
use Rattle.server_monitor.proofs.Noting.{said_again, said_kept, said_dropped}
use Rattle.server_monitor.proofs.lines.Lines.say.Goals as goal

pub returns-then-count_again-clause-said : goal.returns-then-count_again-clause-said
returns-then-count_again-clause-said c =
    let same = c.count_again.ensures.yes c.if-count_again.true in
    said_again _ _ _ _ _ same.0 same.1 c.deref.ensures same.2 same.3

pub returns-then-has_place-clause-said : goal.returns-then-has_place-clause-said
returns-then-has_place-clause-said c =
    let other = c.count_again.ensures.no c.if-count_again.false in
    said_kept _ _ _ _ _ c.deref.ensures other.0 other.1 (c.has_place.ensures.yes c.if-has_place.true) c.keep.ensures

pub returns-else-has_place-clause-said : goal.returns-else-has_place-clause-said
returns-else-has_place-clause-said c =
    let other = c.count_again.ensures.no c.if-count_again.false in
    said_dropped _ _ _ c.count_again.new.self c.lose.new.self c.deref.ensures other.0 other.1
    (c.has_place.ensures.no c.if-has_place.false) c.lose.ensures.dropped
