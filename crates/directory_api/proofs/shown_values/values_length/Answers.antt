-- What search doesn't prove of `values_length`: `loop-part-preserved` and what it returns, by lemmas of `ShownValues`.
use Rattle.std.proofs.Common.{arith}
use Rattle.directory_api.proofs.ShownValues.{measured_more, measured_all}
use Rattle.directory_api.proofs.shown_values.values_length.Goals as goal

pub loop-part-preserved : goal.loop-part-preserved
loop-part-preserved c = record {
  within = omega (arith, c.add_lengths-total.ensures);
  whole = measured_more c.loop-part.rest.values c.in-Some.part.values.now c.in-Some.others.values 4294967296
      c.loop-part.total c.part_length.result c.add_lengths-total.result _ c.in-Some.ensures.values
      c.part_length.ensures c.add_lengths-total.ensures c.loop-part.invariant.whole;
}

pub returns : goal.returns
returns c = measured_all c.loop-part.rest.values 4294967296 c.loop-part.total _ c.in_default.ensures.values
    c.loop-part.invariant.within c.loop-part.invariant.whole
