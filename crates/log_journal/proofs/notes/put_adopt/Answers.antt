-- What search doesn't prove of `put_adopt`: the clause `ok`, by lemmas of `Putting`.
use Rattle.log_journal.specs.Notes.{Step}
use Rattle.vr_state.specs.Journaled.{Adopt}
use Rattle.log_journal.proofs.Putting.{one_put}
use Rattle.log_journal.proofs.notes.put_adopt.Goals as goal

pub returns-clause-ok : goal.returns-clause-ok
returns-clause-ok c = one_put (Step (Adopt c.args.view_number c.args.last_normal_view c.args.base
    c.args.commit_number)) _ _ _ c.in_ok-put_fields.ensures.ok c.plain.ensures
