use Rattle.std.proofs.Common.{◌≡◌, [], None, map, drop}
use Rattle.schema_text.specs.Descriptions.{fields_from}
use Rattle.schema_text.proofs.fields.fields.Given as goal

abbrev pub invariant-loop-piece : goal.invariant-loop-piece
invariant-loop-piece l = fields_from l.section l.fields.items l.waiting
    (map (λ x. x.now) (drop l.piece-index l.pieces)) ≡ fields_from l.section [] None (map (λ x. x.now) l.pieces)
