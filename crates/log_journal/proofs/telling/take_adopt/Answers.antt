-- What search doesn't prove of `take_adopt`: the clause `taken`, by lemmas of `Plain`.
use Rattle.ldap_op.specs.Values.{OpValue}
use Rattle.vr_state.specs.Words.{LogEntry}
use Rattle.std.proofs.Common.{List, take, ◌++◌, refl, sym, ap, ◌∙◌, rules}
use Rattle.log_journal.specs.Notes.{Step}
use Rattle.log_journal.specs.Views.{fields_view}
use Rattle.vr_state.specs.Journaled.{Adopt}
use Rattle.log_journal.proofs.Plain.{plain_at, told_is}
use Rattle.log_journal.proofs.telling.take_adopt.Goals as goal

pub returns-clause-taken : goal.returns-clause-taken
returns-clause-taken c = record {
  note = Step (Adopt c.args.fields.now.first c.args.fields.now.second c.args.fields.now.third c.args.fields.now.fourth);
  is = plain_at (fields_view c.args.fields.now) 5 _ _ _ _ (c.is_plain.ensures.plain (search rules)) c.requires refl
      refl refl refl;
  told = told_is _ _ refl refl refl refl refl refl
      (sym (c.in_ok-replace_after.ensures.ok ∙ ap (λ (l : List (LogEntry OpValue)). take c.args.fields.now.third
      c.args.told.now.log ++ l) c.replace-staged.ensures.value)) (sym c.max-told.ensures)
      (sym (c.replace-staged.ensures.after ∙ c.new.ensures)) refl;
}
