use Rattle.std.proofs.Common.{◌≡◌, ◌+◌, map, drop}
use Rattle.index_choice.specs.Texts.{lines_from, after}
use Rattle.index_choice.proofs.reading.said_by_lines.Given as goal

abbrev pub invariant-loop-i : goal.invariant-loop-i
invariant-loop-i l = after l.said.items (lines_from l.schema (l.i + 1) (map (λ x. x.now) (drop l.i l.lines))) ≡
    lines_from l.schema 1 (map (λ x. x.now) l.lines)
