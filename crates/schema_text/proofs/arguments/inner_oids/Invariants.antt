use Rattle.std.proofs.Common.{◌≡◌, [], map, drop}
use Rattle.schema_text.specs.Arguments.{all_from, inner_oid}
use Rattle.schema_text.proofs.arguments.inner_oids.Given as goal

abbrev pub invariant-loop-piece : goal.invariant-loop-piece
invariant-loop-piece l = all_from (inner_oid) (map (λ x. x.items) l.oids.items)
    (map (λ x. x.now) (drop l.piece-index l.pieces)) ≡ all_from (inner_oid) [] (map (λ x. x.now) l.pieces)
