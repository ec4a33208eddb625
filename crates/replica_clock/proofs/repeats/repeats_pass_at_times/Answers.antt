-- What search doesn't prove of `repeats_pass_at_times`: the clause `passes`, the clause `first` and the clause
-- `held_back`, by lemmas of `RepeatedMessages`.
use Rattle.replica_clock.proofs.RepeatedMessages.{passes_at_times, first_passes, are_held_back}
use Rattle.replica_clock.proofs.repeats.repeats_pass_at_times.Goals as goal

pub returns-clause-passes : goal.returns-clause-passes
returns-clause-passes c = passes_at_times

pub returns-clause-first : goal.returns-clause-first
returns-clause-first c = first_passes

pub returns-clause-held_back : goal.returns-clause-held_back
returns-clause-held_back c = are_held_back
