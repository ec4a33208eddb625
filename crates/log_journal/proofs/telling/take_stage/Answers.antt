-- What search doesn't prove of `take_stage`: the clause `taken` and the clause `damaged`, by lemmas of `NoNote` and
-- `Plain`.
use Rattle.std.proofs.Common.{ℕ, refl, sym, subst, arith, rules}
use Rattle.log_journal.specs.Notes.{Step, IsEntryIn}
use Rattle.log_journal.specs.Views.{fields_view}
use Rattle.vr_state.specs.Journaled.{Stage}
use Rattle.log_journal.proofs.NoNote.{no_stage}
use Rattle.log_journal.proofs.Plain.{told_is}
use Rattle.log_journal.proofs.telling.take_stage.Goals as goal

pub returns-clause-taken : goal.returns-clause-taken
returns-clause-taken c = record {
  note = Step (Stage c.in_ok-entry.entry);
  is = subst (λ (k : ℕ). IsEntryIn k 0 c.in_ok-entry.entry (fields_view c.args.fields.now)) c.requires
      (subst (λ (j : ℕ). IsEntryIn c.args.fields.now.kind j c.in_ok-entry.entry (fields_view c.args.fields.now))
      (omega arith) c.in_ok-entry.ensures.entry);
  told = told_is _ _ refl refl refl refl refl refl refl refl (sym c.in_ok-push.ensures.ok) refl;
}

pub returns-in_err-entry-clause-damaged : goal.returns-in_err-entry-clause-damaged
returns-in_err-entry-clause-damaged c = λ is. no_stage (fields_view c.args.fields.now) c.requires
    (λ e home h. c.in_err-entry.ensures.damaged (search rules) 4 0 e home h)
