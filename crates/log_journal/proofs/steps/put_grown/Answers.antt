-- What search doesn't prove of `put_grown`: the clause `ok`, by lemmas of `Putting`.
use Rattle.std.proofs.Common.{◌≡◌, ℕ, List, min, length, ap₂, ◌∙◌, subst, drop, map, arith}
use Rattle.std.proofs.lemmas.List.{drop_min}
use Rattle.ldap_op.specs.Values.{OpValue}
use Rattle.vr_state.specs.Words.{LogEntry}
use Rattle.vr_state.specs.Journaled.{Record}
use Rattle.log_journal.specs.Notes.{Step, Puts}
use Rattle.log_journal.proofs.Putting.{steps_put}
use Rattle.log_journal.proofs.steps.put_grown.Goals as goal

pub returns-clause-ok : goal.returns-clause-ok
returns-clause-ok c =
    let from : c.min-from.result ≡ min c.args.length (length c.args.replica.now.log) = omega arith in
    steps_put (λ x. Record c.args.replica.now.commit_number x) (drop c.args.length c.args.replica.now.log) _ _
    (subst (λ (l : List (LogEntry OpValue)). Puts (map (λ e. Step (Record c.args.replica.now.commit_number e)) l)
    c.args.batch.now c.put_records.new.batch)
    (c.split_at.ensures.back ∙ ap₂ (λ (k : ℕ) (l : List (LogEntry OpValue)). drop k l) from c.as_slice.ensures
    ∙ drop_min c.args.length c.args.replica.now.log) c.in_ok-put_records.ensures.ok)
