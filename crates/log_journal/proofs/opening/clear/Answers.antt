-- What search doesn't prove of `clear`: the clause `held` and the clause `strings`, by lemmas of `Along` and `Crash`
-- (`journal`).
use Rattle.std.proofs.Common.{◌≡◌}
use Rattle.log_journal.specs.journal.Frames.{recorded}
use Rattle.journal.proofs.Crash.{recorded_now}
use Rattle.log_journal.proofs.Along.{held_after}
use Rattle.log_journal.proofs.opening.clear.Goals as goal

pub returns-in-Ok-clause-held : goal.returns-in-Ok-clause-held
returns-in-Ok-clause-held g c =
    let settled = c.in-Ok.ensures.settled in
    held_after _ _ _ _ settled (recorded_now _ _ _ settled.image)

pub returns-in-Ok-clause-strings : goal.returns-in-Ok-clause-strings
returns-in-Ok-clause-strings g c = recorded_now _ _ _ c.in-Ok.ensures.settled.image
