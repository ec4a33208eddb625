-- What search doesn't prove of `part_length`: `loop-value-preserved`, by lemmas of `ShownValues`.
use Rattle.std.proofs.Common.{ℕ, List, length, min, ap}
use Rattle.directory_api.proofs.ShownValues.{value_measure}
use Rattle.directory_api.proofs.shown_values.part_length.Goals as goal

pub loop-value-preserved : goal.loop-value-preserved
loop-value-preserved c =
    value_measure c.args.values.now c.loop-value.value-index c.value-item.result 4294967296 c.loop-value.total
    c.element_length.result c.add_lengths-total.result c.loop-value-test.true c.value-item.is c.loop-value.invariant
    (c.element_length.ensures 4 c.value-item.result (ap (λ (bs : List ℕ). min (length bs) 4294967296)
    c.as_slice.ensures)) c.add_lengths-total.ensures
