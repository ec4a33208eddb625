-- What search doesn't prove of `write_lines`: what `split_at` requires, the clause `err` and `loop-length-preserved`,
-- by lemmas of `Growing`.
use Rattle.std.proofs.Common.{refl, ◌∙◌}
use Rattle.local_directory.proofs.Growing.{next_row, line_done, line_cut}
use Rattle.local_directory.proofs.lines.write_lines.Goals as goal

pub split_at-requires : goal.split_at-requires
split_at-requires g c =
    (next_row c.args.responses.now c.lengths-length-items.result.now c.loop-length.length-index _
    c.loop-length.rest.now c.lengths-length-items.ensures c.loop-length-test.true refl c.loop-length.invariant.1).1

pub returns-in-Err-clause-err : goal.returns-in-Err-clause-err
returns-in-Err-clause-err g c =
    let next = next_row c.args.responses.now c.lengths-length-items.result.now c.loop-length.length-index _
    c.loop-length.rest.now c.lengths-length-items.ensures c.loop-length-test.true refl
    c.loop-length.invariant.1 in
    line_cut c.args.responses.now c.loop-length.length-index c.split_at.result.0.now
    (g.W.Write.contents c.args.output.now) (g.W.Write.contents c.loop-length.output)
    (g.W.Write.contents c.write_line.new.output)
    c.in-Err.fault next.0 (c.split_at.ensures.front ∙ next.2) c.loop-length.invariant.0 c.in-Err.ensures.err

pub loop-length-preserved : goal.loop-length-preserved
loop-length-preserved g c =
    let next = next_row c.args.responses.now c.lengths-length-items.result.now c.loop-length.length-index _
    c.loop-length.rest.now c.lengths-length-items.ensures c.loop-length-test.true refl
    c.loop-length.invariant.1 in (
      line_done c.args.responses.now c.loop-length.length-index c.split_at.result.0.now
          (g.W.Write.contents c.args.output.now) (g.W.Write.contents c.loop-length.output)
          (g.W.Write.contents c.write_line.new.output)
          next.0 (c.split_at.ensures.front ∙ next.2) c.loop-length.invariant.0 c.in-Ok.ensures.ok,
      c.split_at.ensures.back ∙ next.3,
    )
