-- What search doesn't prove of `reached`: `loop-other-preserved`, by lemmas of `Reaching`.
use Rattle.std.proofs.Common.{◌∙◌, length}
use Rattle.vr_state.specs.Outcome.{others}
use Rattle.vr_normal.proofs.Reaching.{reached_with, reached_without, reached_same}
use Rattle.vr_normal.proofs.acknowledgements.reached.Goals as goal
use Rattle.vr_normal.proofs.acknowledgements.reached.Goals.{then-other-index+then-half-acknowledging, then-other-index+else-half-acknowledging, else-other-index}

pub loop-other-preserved : goal.loop-other-preserved
loop-other-preserved c = elim c.if-other-index.branch [
  | then-other-index+then-half-acknowledging w ↦
      w.most-is ∙ (w.max-most.ensures ∙ reached_with _ c.args.acknowledged.now
      (others (length c.args.acknowledged.now) c.args.index) _ _ _ _ c.loop-other.invariant w.if-other-index.true
      w.acknowledging.ensures w.if-half-acknowledging.true)
  | then-other-index+else-half-acknowledging w ↦
      w.most-is ∙ reached_without _ c.args.acknowledged.now (others (length c.args.acknowledged.now) c.args.index) _ _
      _ _ c.loop-other.invariant w.if-other-index.true w.acknowledging.ensures w.if-half-acknowledging.false
  | else-other-index w ↦ w.most-is ∙ reached_same _ c.args.acknowledged.now (others (length c.args.acknowledged.now)
      c.args.index) _ _ _ c.loop-other.invariant w.if-other-index.false
]
