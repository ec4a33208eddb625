use Rattle.std.proofs.Common.{◌≡◌, ◌++◌, map, drop}
use Rattle.std.specs.List.{filter}
use Rattle.schema_text.specs.Arguments.{is_some_piece}
use Rattle.schema_text.proofs.pieces.filled.Given as goal

abbrev pub invariant-loop-part : goal.invariant-loop-part
invariant-loop-part l = map (λ x. x.now) l.found.items ++ filter is_some_piece
    (map (λ x. x.now) (drop l.part-index l.parts)) ≡ filter is_some_piece (map (λ x. x.now) l.parts)
