-- What search doesn't prove of `note`: where the update of no thread is the session's, none is let go.
use Rattle.session_table.proofs.table.Table.note.Goals as goal

pub returns-in-None-clause-gone : goal.returns-in-None-clause-gone
returns-in-None-clause-gone c = λ _ thread has. absurd (c.in-None.ensures.none thread has)
