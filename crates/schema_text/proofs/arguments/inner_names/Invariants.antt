use Rattle.std.proofs.Common.{◌≡◌, [], true, map, drop}
use Rattle.schema_text.specs.Arguments.{all_from, quoted_name}
use Rattle.schema_text.proofs.arguments.inner_names.Given as goal

abbrev pub invariant-loop-piece : goal.invariant-loop-piece
invariant-loop-piece l = all_from (quoted_name true) (map (λ x. x.items) l.names.items)
    (map (λ x. x.now) (drop l.piece-index l.pieces)) ≡ all_from (quoted_name true) [] (map (λ x. x.now) l.pieces)
