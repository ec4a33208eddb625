-- What search doesn't prove of `roused`: what it returns, step by step.
use Rattle.std.proofs.Common.{refl}
use Rattle.session_table.proofs.places.roused.Goals as goal

pub returns-in-Some : goal.returns-in-Some
returns-in-Some c =
    rw c.in-Some.is (record {
      pooled = c.rouse.new.self;
      fd = _;
      turn = c.turn.result;
      after_is = refl;
      class = c.class.result;
      told_is = refl;
      class_is = c.class.ensures;
      roused = record { waited = c.rouse.ensures.waited; turn_is = c.turn.ensures };
    })
