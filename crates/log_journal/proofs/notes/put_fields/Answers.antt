-- What search doesn't prove of `put_fields`: the clause `ok` and the clause `full`, step by step.
use Rattle.std.proofs.Common.{ap, ◌∙◌, rules}
use Rattle.log_journal.specs.Fields.{fields_at}
use Rattle.log_journal.specs.Views.{fields_view}
use Rattle.log_journal.proofs.notes.put_fields.Goals as goal

pub returns-clause-ok : goal.returns-clause-ok
returns-clause-ok c = record {
  string = c.deref.result.now;
  is = c.in_ok-push.ensures.ok;
  read = ap fields_at (c.deref.ensures.value ∙ c.in_ok-string.ensures) ∙ c.fields_are_read.ensures
      (fields_view c.args.fields.now) c.see_fields.ensures;
}

pub returns-in_err-push-clause-full : goal.returns-in_err-push-clause-full
returns-in_err-push-clause-full c = λ is. record {
  string = c.deref.result.now;
  read = ap fields_at (c.deref.ensures.value ∙ c.in_ok-string.ensures) ∙ c.fields_are_read.ensures
      (fields_view c.args.fields.now) c.see_fields.ensures;
  long = c.in_err-push.ensures.full (search rules);
}
