-- What search doesn't prove of `mark_named`: `loop-attribute-preserved`, by a lemma of `Untouched`.
use Rattle.dir_index.proofs.Untouched.{named_first}
use Rattle.dir_index.proofs.apart.mark_named.Goals as goal

pub loop-attribute-preserved : goal.loop-attribute-preserved
loop-attribute-preserved c =
    record {
      more = λ p h. c.loop-attribute.invariant.more p (c.in_ok-mark_whole.ensures.more p h);
      named = λ p h k. c.loop-attribute.invariant.named p (c.in_ok-mark_whole.ensures.more p h)
          (named_first c.args.indexes.now c.loop-attribute.rest.now c.in-Some.others.now c.in-Some.attribute.now p
          c.in-Some.ensures.cases.0 (λ e. c.in_ok-mark_whole.ensures.whole p e h) k);
    }
