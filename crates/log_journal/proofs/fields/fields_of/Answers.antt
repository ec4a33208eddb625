-- What search doesn't prove of `fields_of`: what it returns, step by step.
use Rattle.std.proofs.Common.{slice_index}
use Rattle.log_journal.proofs.fields.fields_of.Goals as goal

pub returns : goal.returns
returns c = λ i. record {
  kind = slice_index c.args.body.now 0;
  first = c.number_at.ensures i;
  second = c.number_at-2.ensures i;
  third = c.number_at-3.ensures i;
  fourth = c.number_at-4.ensures i;
  fifth = c.number_at-5.ensures i;
  rest = c.split_at.ensures.back i;
}
