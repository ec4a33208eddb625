-- What search doesn't prove of `take_begin`: the clause `taken`, by lemmas of `Plain`.
use Rattle.std.proofs.Common.{refl, arith, rules}
use Rattle.log_journal.specs.Notes.{Begin}
use Rattle.log_journal.specs.Views.{fields_view}
use Rattle.log_journal.proofs.Plain.{plain_at}
use Rattle.log_journal.proofs.telling.take_begin.Goals as goal

pub returns-clause-taken : goal.returns-clause-taken
returns-clause-taken c = record {
  note = Begin c.args.fields.now.second c.args.fields.now.third c.args.fields.now.fourth;
  is = plain_at (fields_view c.args.fields.now) 0 1 _ _ _ (c.is_plain.ensures.plain (search rules)) c.requires
      (omega arith) refl refl refl;
  told = refl;
}
