-- What search doesn't prove of `notified`: what it returns, step by step.
use Rattle.std.proofs.Common.{refl}
use Rattle.session_table.proofs.places.notified.Goals as goal

pub returns-in-Some : goal.returns-in-Some
returns-in-Some c =
    rw c.in-Some.is (record {
      pooled = c.take_note.new.self;
      less = c.take_note.result;
      after_is = refl;
      told_is = refl;
      same = c.take_note.ensures.same;
      noted = c.take_note.ensures.noted;
    })
