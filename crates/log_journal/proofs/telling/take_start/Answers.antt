-- What search doesn't prove of `take_start`: the clause `taken`, by lemmas of `Plain`.
use Rattle.std.proofs.Common.{true, false, refl, sym, arith, rules}
use Rattle.log_journal.specs.Notes.{Start}
use Rattle.log_journal.specs.Views.{fields_view}
use Rattle.log_journal.proofs.Plain.{plain_at}
use Rattle.log_journal.proofs.telling.take_start.Goals as goal

pub returns-in-0-clause-taken : goal.returns-in-0-clause-taken
returns-in-0-clause-taken c = record {
  note = Start c.args.fields.now.first c.args.fields.now.second false;
  is = plain_at (fields_view c.args.fields.now) 1 _ _ _ _ (c.is_plain.ensures.plain (search rules)) c.requires refl
      refl (omega arith) (omega arith);
  told = sym c.start_empty.ensures;
}

pub returns-in-1-clause-taken : goal.returns-in-1-clause-taken
returns-in-1-clause-taken c = record {
  note = Start c.args.fields.now.first c.args.fields.now.second true;
  is = plain_at (fields_view c.args.fields.now) 1 _ _ _ _ (c.is_plain.ensures.plain (search rules)) c.requires refl
      refl (omega arith) (omega arith);
  told = sym c.start.ensures;
}
