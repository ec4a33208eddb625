use Rattle.std.proofs.Common.{◌≡◌, None, drop, map, option_map}
use Rattle.schema_faults.specs.Descriptions.{field_fault_from}
use Rattle.schema_faults.proofs.descriptions.field_fault.Given as goal

abbrev pub invariant-loop-piece : goal.invariant-loop-piece
invariant-loop-piece l =
    field_fault_from l.lines (option_map (λ w. (w.word.now, w.wanted.now)) l.waiting)
    (map (λ x. x.now) (drop l.piece-index l.pieces))
    ≡ field_fault_from l.lines None (map (λ x. x.now) l.pieces)
