-- What search doesn't prove of `put_commit`: the clause `ok` and the clause `full`, by lemmas of `Putting`.
use Rattle.std.proofs.Common.{rules}
use Rattle.log_journal.specs.Notes.{Commit}
use Rattle.log_journal.proofs.Putting.{one_full, one_put}
use Rattle.log_journal.proofs.notes.put_commit.Goals as goal

pub returns-clause-ok : goal.returns-clause-ok
returns-clause-ok c = one_put (Commit c.args.commit_number) _ _ _ c.in_ok-put_fields.ensures.ok c.plain.ensures

pub returns-in_err-put_fields-clause-full : goal.returns-in_err-put_fields-clause-full
returns-in_err-put_fields-clause-full c = λ is. one_full (Commit c.args.commit_number) _ _
    (c.in_err-put_fields.ensures.full (search rules)) c.plain.ensures
