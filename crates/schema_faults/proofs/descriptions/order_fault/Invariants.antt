use Rattle.std.proofs.Common.{◌≡◌, None, false, drop, map, option_map}
use Rattle.schema_faults.specs.private.Forms.{form_model}
use Rattle.schema_faults.specs.Descriptions.{order_fault_from}
use Rattle.schema_faults.proofs.descriptions.order_fault.Given as goal

abbrev pub invariant-loop-piece : goal.invariant-loop-piece
invariant-loop-piece l =
    order_fault_from l.lines l.is_argument (option_map form_model l.last)
    (map (λ x. x.now) (drop l.piece-index l.pieces))
    ≡ order_fault_from l.lines false None (map (λ x. x.now) l.pieces)
