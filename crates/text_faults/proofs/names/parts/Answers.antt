-- What search doesn't prove of `parts`: `loop-index-preserved` and what it returns, by lemmas of `Cutting`.
use Rattle.std.proofs.Common.{◌+◌, ◌∙◌, ap, arith, map}
use Rattle.std.specs.List.{slice_range}
use Rattle.text_faults.proofs.Cutting.{cut_all, ends_part, goes_on, ends_all, longer_range, empty_range}
use Rattle.text_faults.proofs.names.parts.Goals as goal
use Rattle.text_faults.proofs.names.parts.Goals.{then-is_bare+in_ok-push_part, else-is_bare}

pub loop-index-preserved : goal.loop-index-preserved
loop-index-preserved c =
    elim c.if-is_bare.branch [
      | then-is_bare+in_ok-push_part w ↦ record {
        start = omega arith;
        parts =
            ends_part _ _ _ _ c.loop-index.is_escaped _ c.args.mark c.args.text.now c.loop-index.index _
            c.loop-index-test.true
            (ap (λ p. map (λ x. x.now) p.items) w.parts-is ∙ w.in_ok-push_part.ensures)
            (ap (λ k. slice_range c.args.text.now k (c.loop-index.index + 1)) w.start-is ∙ empty_range c.args.text.now
            (c.loop-index.index + 1))
            c.is_escape-is_escaped.ensures (cc) c.loop-index.invariant.parts;
      }
      | else-is_bare w ↦ record {
        start = omega arith;
        parts =
            goes_on _ _ _ _ c.loop-index.is_escaped _ c.args.mark c.args.text.now c.loop-index.index _
            c.loop-index-test.true
            (ap (λ p. map (λ x. x.now) p.items) w.parts-is)
            (ap (λ k. slice_range c.args.text.now k (c.loop-index.index + 1)) w.start-is
            ∙ longer_range c.args.text.now c.loop-index.start c.loop-index.index c.loop-index.invariant.start
            c.loop-index-test.true)
            c.is_escape-is_escaped.ensures (cc) c.loop-index.invariant.parts;
      }
    ]

pub returns : goal.returns
returns c =
    ends_all _ _ c.args.text.now c.loop-index.start c.loop-index.index c.loop-index.is_escaped c.args.mark _
    (omega arith) (omega arith) (c.in_ok-push_part-2.ensures) c.loop-index.invariant.parts
    ∙ cut_all c.args.mark c.args.text.now
