-- What search doesn't prove of `pieces_of`: `loop-index-preserved`, by lemmas of `CutPieces` and `Cutting`
-- (`text_faults`).
use Rattle.std.proofs.Common.{◌+◌, ◌∙◌, ap, arith, map}
use Rattle.std.specs.List.{slice_range}
use Rattle.text_faults.proofs.Cutting.{longer_range, empty_range}
use Rattle.schema_faults.proofs.CutPieces.{ends_piece, piece_goes_on}
use Rattle.schema_faults.proofs.pieces.pieces_of.Goals as goal
use Rattle.schema_faults.proofs.pieces.pieces_of.Goals.{then-is_break+in_ok-push_piece, else-is_break}

pub loop-index-preserved : goal.loop-index-preserved
loop-index-preserved c =
    elim c.if-is_break.branch [
      | then-is_break+in_ok-push_piece w ↦ record {
        start = omega arith;
        pieces =
            ends_piece _ _ _ _ c.loop-index.scan _ c.args.octets.now c.loop-index.index _ c.loop-index-test.true
            (ap (λ p. map (λ x. x.now) p.items) w.pieces-is ∙ w.in_ok-push_piece.ensures)
            (ap (λ k. slice_range c.args.octets.now k (c.loop-index.index + 1)) w.start-is
            ∙ empty_range c.args.octets.now (c.loop-index.index + 1))
            c.next_of-scan.ensures (cc) c.loop-index.invariant.pieces;
      }
      | else-is_break w ↦ record {
        start = omega arith;
        pieces =
            piece_goes_on _ _ _ _ c.loop-index.scan _ c.args.octets.now c.loop-index.index _ c.loop-index-test.true
            (ap (λ p. map (λ x. x.now) p.items) w.pieces-is)
            (ap (λ k. slice_range c.args.octets.now k (c.loop-index.index + 1)) w.start-is
            ∙ longer_range c.args.octets.now c.loop-index.start c.loop-index.index c.loop-index.invariant.start
            c.loop-index-test.true)
            c.next_of-scan.ensures (cc) c.loop-index.invariant.pieces;
      }
    ]
