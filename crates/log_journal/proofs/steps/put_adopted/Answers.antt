-- What search doesn't prove of `put_adopted`: the clause `ok`, by lemmas of `Putting`.
use Rattle.std.proofs.Common.{List, ap, ◌∙◌, subst, drop, map}
use Rattle.ldap_op.specs.Values.{OpValue}
use Rattle.vr_state.specs.Words.{LogEntry}
use Rattle.vr_state.specs.Journaled.{Stage, Adopt}
use Rattle.log_journal.specs.Notes.{Step, Puts}
use Rattle.log_journal.proofs.Putting.{adopted_put}
use Rattle.log_journal.proofs.steps.put_adopted.Goals as goal

pub returns-clause-ok : goal.returns-clause-ok
returns-clause-ok c = adopted_put (λ x. Stage x) (drop c.args.base c.args.replica.now.log)
    (Adopt c.args.replica.now.view_number c.args.replica.now.last_normal_view c.args.base
    c.args.replica.now.commit_number) _ _ _
    (subst (λ (l : List (LogEntry OpValue)). Puts (map (λ e. Step (Stage e)) l) c.args.batch.now
    c.put_stages.new.batch) (c.split_at.ensures.back ∙ ap (drop c.args.base) c.as_slice.ensures)
    c.in_ok-put_stages.ensures.ok)
    c.in_ok-put_adopt.ensures.ok
