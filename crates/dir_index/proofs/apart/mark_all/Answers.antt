-- What search doesn't prove of `mark_all`: `loop-attribute-preserved-in_ok-mark_whole` and `loop-attribute-preserved`,
-- by lemmas of `Changed` and `Untouched`.
use Rattle.std.proofs.Common.{◌∙◌, sym}
use Rattle.dir_index.specs.private.Touched.{is_whole}
use Rattle.dir_index.proofs.Changed.{entry_rest}
use Rattle.dir_index.proofs.Untouched.{passed_over}
use Rattle.dir_index.proofs.apart.mark_all.Goals as goal

pub loop-attribute-preserved-in_ok-mark_whole : goal.loop-attribute-preserved-in_ok-mark_whole
loop-attribute-preserved-in_ok-mark_whole c =
    record {
      more = λ p h. c.loop-attribute.invariant.more p (c.in_ok-mark_whole.ensures.more p h);
      all = λ p on h k. c.loop-attribute.invariant.all p on (c.in_ok-mark_whole.ensures.more p h)
          (entry_rest c.args.indexes.now c.loop-attribute.rest.now c.in-Some.others.now c.in-Some.attribute.now p
          c.in-Some.ensures.cases.0 (c.in_ok-mark_whole.ensures.whole p c.in-Some.others.now h) ∙ k);
    }

pub loop-attribute-preserved : goal.loop-attribute-preserved
loop-attribute-preserved c =
    record {
      more = c.loop-attribute.invariant.more;
      all = λ p on h k. c.loop-attribute.invariant.all p on h
          (passed_over c.args.indexes.now (is_whole c.args.touched.now) c.loop-attribute.rest.now c.in-Some.others.now
          c.in-Some.attribute.now p c.in-Some.ensures.cases.0 (sym c.is_whole.ensures ∙ c.if-is_whole.false) on ∙ k);
    }
