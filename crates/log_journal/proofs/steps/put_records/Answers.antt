-- What search doesn't prove of `put_records`: `loop-entry-init`, `loop-entry-preserved` and the clause `ok`, by lemmas
-- of `Putting`.
use Rattle.std.proofs.Common.{◌∷◌, [], subst, arith}
use Rattle.ldap_op.specs.Values.{OpValue}
use Rattle.vr_state.specs.Words.{LogEntry}
use Rattle.log_journal.specs.Notes.{Step, Puts}
use Rattle.vr_state.specs.Journaled.{Record}
use Rattle.log_journal.proofs.Putting.{none_put, more_put, all_put}
use Rattle.log_journal.proofs.steps.put_records.Goals as goal

pub loop-entry-init : goal.loop-entry-init
loop-entry-init c = none_put _

pub loop-entry-preserved : goal.loop-entry-preserved
loop-entry-preserved c = more_put (λ e. Step (Record c.args.commit_number e)) c.args.entries.now
    c.loop-entry.entry-index c.entry-item.result _ _ _ (omega arith) c.loop-entry.invariant
    (subst (λ (e : LogEntry OpValue). Puts (Step (Record c.args.commit_number e) ∷ []) c.loop-entry.batch
    c.put_record.new.batch) c.entry-item.is c.in_ok-put_record.ensures.ok)

pub returns-clause-ok : goal.returns-clause-ok
returns-clause-ok c = all_put (λ e. Step (Record c.args.commit_number e)) c.args.entries.now c.loop-entry.entry-index
    _ _ (omega arith) c.loop-entry.invariant
