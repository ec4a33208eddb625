-- What search doesn't prove of `marks_of`: what it returns, and the loop, by lemmas of `Untouched`.
use Rattle.std.proofs.Common.{Bool, sym, ap, ◌∙◌}
use Rattle.std.specs.Prelude.{◌||◌}
use Rattle.dir_index.specs.private.Marked.{has_posting}
use Rattle.dir_index.specs.private.Touched.{is_touched}
use Rattle.dir_index.proofs.Untouched.{marked_first, passed_first}
use Rattle.dir_index.proofs.marks.marks_of.Goals as goal

pub loop-attribute-preserved-in_ok-mark_attribute : goal.loop-attribute-preserved-in_ok-mark_attribute
loop-attribute-preserved-in_ok-mark_attribute c = λ p.
    marked_first c.args.indexes.now (is_touched c.args.touched.now) c.loop-attribute.rest.now c.in-Some.others.now
    c.in-Some.attribute.now p (has_posting c.loop-attribute.marks.keys p)
    (has_posting c.mark_attribute.new.marks.keys p) c.in-Some.ensures.cases.0
    (sym c.is_touched.ensures ∙ c.if-is_touched.true) (c.in_ok-mark_attribute.ensures p)
    ∙ c.loop-attribute.invariant p

pub loop-attribute-preserved : goal.loop-attribute-preserved
loop-attribute-preserved c = λ p.
    ap (λ (b : Bool). b || has_posting c.loop-attribute.marks.keys p)
    (passed_first c.args.indexes.now (is_touched c.args.touched.now) c.loop-attribute.rest.now c.in-Some.others.now
    c.in-Some.attribute.now p c.in-Some.ensures.cases.0 (sym c.is_touched.ensures ∙ c.if-is_touched.false))
    ∙ c.loop-attribute.invariant p
