use Rattle.std.proofs.Common.{◌≡◌, ◌+◌, ◌⊎◌, ℕ, List, length, Err, inl, inr, ap, ◌∙◌, subst, sym, arith}
use Rattle.log_journal.specs.Fields.{fields_at}
use Rattle.log_journal.specs.Refused.{IsOfNotingOne}
use Rattle.log_journal.specs.Views.{fields_view}
use Rattle.log_journal.specs.declared.error.NoteError.{NoteError}
use Rattle.log_journal.specs.declared.error.NoteError.TheVariants.{Full, NoMemory}
use Rattle.log_journal.proofs.Reading.{string_length}
use Rattle.log_journal.proofs.light.put_reserved.Goals as goal

-- there is no want of memory
alone : (e : NoteError) → (e ≡ Full) ⊎ (e ≡ NoMemory) → (e ≡ NoMemory → ⊥) → IsOfNotingOne e
alone e (inl k) h = subst IsOfNotingOne (sym k) tt
alone e (inr k) h = absurd (h k)

pub returns-in-Err-push_frame-clause-errors : goal.returns-in-Err-push_frame-clause-errors
returns-in-Err-push_frame-clause-errors c = alone c.in-Err-push_frame.error c.in-Err-push_frame.ensures.errors
    (λ e. omega (
      arith,
      c.in-Err-push_frame.ensures.no_memory (ap (λ (x : NoteError). Err x)
          e),
      ap length c.as_slice.ensures.value,
      ap length c.in-Ok.ensures.ok,
      string_length (fields_view c.args.fields.now),
      c.requires.room,
    ))

pub returns-in-Ok-push_frame-clause-ok : goal.returns-in-Ok-push_frame-clause-ok
returns-in-Ok-push_frame-clause-ok c = record {
  string = c.as_slice.result.now;
  is = c.in-Ok-push_frame.ensures.ok;
  read = ap fields_at (c.as_slice.ensures.value ∙ c.in-Ok.ensures.ok) ∙ c.fields_are_read.ensures
      (fields_view c.args.fields.now) c.see_fields.ensures;
}
