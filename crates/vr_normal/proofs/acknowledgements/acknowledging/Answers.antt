-- What search doesn't prove of `acknowledging`: `loop-other-preserved`, by lemmas of `Reaching`.
use Rattle.std.proofs.Common.{nat_le, slice_index, ◌∙◌, arith, le-leb}
use Rattle.std.proofs.lemmas.Bool.{lt-leb}
use Rattle.vr_normal.proofs.Reaching.{count_with, count_without, count_same}
use Rattle.vr_normal.proofs.acknowledgements.acknowledging.Goals as goal
use Rattle.vr_normal.proofs.acknowledgements.acknowledging.Goals.{then-other-index+then-least-acknowledged, else-other-index, else-other-index-via-then-other-index+else-least-acknowledged, else-other-index-via-else-other-index}

pub loop-other-preserved : goal.loop-other-preserved
loop-other-preserved c = record {
  counted = elim c.if-other-index.branch [
    | then-other-index+then-least-acknowledged w ↦ w.found-is
        ∙ count_with (λ k. nat_le c.args.least (slice_index c.args.acknowledged.now k)) _ _ _
        c.loop-other.invariant.counted w.if-other-index.true (le-leb _ _ w.if-least-acknowledged.true)
    | else-other-index w ↦ w.found-is ∙ elim w.else-other-index.branch [
      | else-other-index-via-then-other-index+else-least-acknowledged v ↦
          count_without (λ k. nat_le c.args.least (slice_index c.args.acknowledged.now k)) _ _ _
          c.loop-other.invariant.counted v.if-other-index.true (lt-leb _ _ v.if-least-acknowledged.false)
      | else-other-index-via-else-other-index v ↦
          count_same (λ k. nat_le c.args.least (slice_index c.args.acknowledged.now k)) _ _ _
          c.loop-other.invariant.counted v.if-other-index.false
    ]
  ];
  few = elim c.if-other-index.branch [
    | then-other-index+then-least-acknowledged w ↦ omega arith
    | else-other-index w ↦ omega arith
  ];
}
