use Rattle.std.proofs.Common.{◌≡◌, ◌+◌, map, drop}
use Rattle.schema_text.specs.Texts.{nothing, read_from}
use Rattle.schema_text.proofs.text.add_lines.Given as goal

abbrev pub invariant-loop-index : goal.invariant-loop-index
invariant-loop-index l = read_from l.text (l.index + 1) (map (λ x. x.now) (drop l.index l.lines)) ≡ read_from nothing
    1 (map (λ x. x.now) l.lines)
