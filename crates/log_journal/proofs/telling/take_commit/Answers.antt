-- What search doesn't prove of `take_commit`: the clause `taken`, by lemmas of `Plain`.
use Rattle.std.proofs.Common.{ℕ, refl, sym, ap, ◌∙◌, rules}
use Rattle.log_journal.specs.Notes.{Commit, plain}
use Rattle.log_journal.proofs.Plain.{told_is}
use Rattle.log_journal.proofs.telling.take_commit.Goals as goal

pub returns-clause-taken : goal.returns-clause-taken
returns-clause-taken c = record {
  note = Commit c.args.fields.now.first;
  is = c.is_number.ensures.number (search rules) ∙ ap (λ (k : ℕ). plain k c.args.fields.now.first 0 0 0 0) c.requires;
  told = told_is _ _ refl refl refl refl refl refl refl (sym c.max-told.ensures) refl refl;
}
