use Rattle.std.proofs.Common.{◌≡◌, [], true, map, drop}
use Rattle.schema_text.specs.Arguments.{all_from, quoted_text}
use Rattle.schema_text.proofs.arguments.inner_texts.Given as goal

abbrev pub invariant-loop-piece : goal.invariant-loop-piece
invariant-loop-piece l = all_from (quoted_text true) (map (λ x. x.items) l.texts.items)
    (map (λ x. x.now) (drop l.piece-index l.pieces)) ≡ all_from (quoted_text true) [] (map (λ x. x.now) l.pieces)
