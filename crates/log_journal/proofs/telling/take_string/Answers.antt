-- What search doesn't prove of `take_string`: the clause `version`, step by step.
use Rattle.log_journal.specs.Views.{fields_view}
use Rattle.log_journal.proofs.telling.take_string.Goals as goal

pub returns-in-Some-clause-version : goal.returns-in-Some-clause-version
returns-in-Some-clause-version c = λ is. let other = c.take_fields.ensures.version is in record {
  fields = fields_view c.in-Some.fields;
  read = c.in-Some.ensures;
  kind = other.0;
  version = other.1;
}
