-- LDIF, lines: what the loop of `unfolded` keeps.
use Rattle.std.proofs.Common.{◌≡◌, ◌+◌, map, drop}
use Rattle.ldif.specs.Lines.{without_return, unfolded}
use Rattle.ldif.specs.private.Folding.{resumed}
use Rattle.ldif.proofs.lines.unfolded.Given as goal

abbrev pub invariant-loop-index : goal.invariant-loop-index
invariant-loop-index l = resumed l.lines.items
    (unfolded (l.index + 1) (map without_return (map (λ x. x.now) (drop l.index l.parts)))) ≡
    unfolded 1 (map without_return (map (λ x. x.now) l.parts))
