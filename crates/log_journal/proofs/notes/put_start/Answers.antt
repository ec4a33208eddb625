-- What search doesn't prove of `put_start`: the clause `ok` and the clause `full`, by lemmas of `Putting`.
use Rattle.std.proofs.Common.{ℕ, ap, ◌∙◌, rules}
use Rattle.log_journal.specs.Notes.{Start, plain}
use Rattle.log_journal.proofs.Putting.{one_full, one_put}
use Rattle.log_journal.proofs.notes.put_start.Goals as goal

pub returns-clause-ok : goal.returns-clause-ok
returns-clause-ok c = one_put (Start c.args.restarts c.args.view_number c.args.is_whole) _ _ _
    c.in_ok-put_fields.ensures.ok (c.plain.ensures ∙ ap (λ (x : ℕ). plain 1 c.args.restarts c.args.view_number x 0 0)
    c.flag_of.ensures)

pub returns-in_err-put_fields-clause-full : goal.returns-in_err-put_fields-clause-full
returns-in_err-put_fields-clause-full c = λ is. one_full (Start c.args.restarts c.args.view_number c.args.is_whole) _
    _ (c.in_err-put_fields.ensures.full (search rules)) (c.plain.ensures
    ∙ ap (λ (x : ℕ). plain 1 c.args.restarts c.args.view_number x 0 0) c.flag_of.ensures)
