-- LDIF, lines: the end of the loop of `unfolded`.
use Rattle.std.proofs.Common.{◌+◌, map, ap, sym, ◌∙◌}
use Rattle.ldif.specs.Lines.{without_return, unfolded}
use Rattle.ldif.specs.private.Folding.{resumed}
use Rattle.ldif.proofs.Unfolding.{drop_past, resumed_nil}
use Rattle.ldif.proofs.lines.unfolded.Goals as goal

pub returns : goal.returns
returns c =
    sym (resumed_nil c.loop-index.lines.items)
    ∙ sym (ap (λ xs. resumed c.loop-index.lines.items (unfolded (c.loop-index.index + 1)
    (map without_return (map (λ x. x.now) xs)))) (drop_past c.loop-index.index c.args.parts.now
    c.loop-index-test.false))
    ∙ c.loop-index.invariant
