use Rattle.std.proofs.Common.{map, take}
use Rattle.vr_state.specs.Journaled.{Record}
use Rattle.log_journal.specs.Notes.{Step, Puts}
use Rattle.log_journal.proofs.steps.put_records.Given as goal

abbrev pub invariant-loop-entry : goal.invariant-loop-entry
invariant-loop-entry l = Puts (map (λ e. Step (Record l.commit_number e)) (take l.entry-index l.entries))
    l.initial.batch l.batch
