-- What search doesn't prove of `take_record`: the clause `taken` and the clause `damaged`, by lemmas of `NoNote` and
-- `Plain`.
use Rattle.std.proofs.Common.{ℕ, refl, sym, subst, rules}
use Rattle.log_journal.specs.Notes.{Step, IsEntryIn}
use Rattle.log_journal.specs.Views.{fields_view}
use Rattle.vr_state.specs.Journaled.{Record}
use Rattle.log_journal.proofs.NoNote.{no_record}
use Rattle.log_journal.proofs.Plain.{told_is}
use Rattle.log_journal.proofs.telling.take_record.Goals as goal

pub returns-clause-taken : goal.returns-clause-taken
returns-clause-taken c = record {
  note = Step (Record c.args.fields.now.first c.in_ok-entry.entry);
  is = subst (λ (k : ℕ). IsEntryIn k c.args.fields.now.first c.in_ok-entry.entry (fields_view c.args.fields.now))
      c.requires c.in_ok-entry.ensures.entry;
  told = told_is _ _ refl refl refl refl refl refl (sym c.in_ok-push.ensures.ok) (sym c.max-told.ensures)
      (sym c.new.ensures) refl;
}

pub returns-in_err-entry-clause-damaged : goal.returns-in_err-entry-clause-damaged
returns-in_err-entry-clause-damaged c = λ is. no_record (fields_view c.args.fields.now) c.requires
    (c.in_err-entry.ensures.damaged (search rules))
