-- What search doesn't prove of `put_stage`: the clause `ok`, by lemmas of `Putting`.
use Rattle.log_journal.specs.Notes.{Step}
use Rattle.vr_state.specs.Journaled.{Stage}
use Rattle.log_journal.proofs.Putting.{one_put}
use Rattle.log_journal.proofs.notes.put_stage.Goals as goal

pub returns-clause-ok : goal.returns-clause-ok
returns-clause-ok c = one_put (Step (Stage c.args.entry.now)) _ _ _ c.in_ok-put_fields.ensures.ok
    c.entry_fields.ensures.entry
