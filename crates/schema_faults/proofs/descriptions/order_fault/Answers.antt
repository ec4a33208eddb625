-- What search doesn't prove of `order_fault`: `loop-piece-preserved-then-is_argument`, by lemmas of `Ordering`.
use Rattle.schema_faults.proofs.Ordering.{argument_skipped}
use Rattle.schema_faults.proofs.descriptions.order_fault.Goals as goal

pub loop-piece-preserved-then-is_argument : goal.loop-piece-preserved-then-is_argument
loop-piece-preserved-then-is_argument c =
    argument_skipped _ _ _ _ _ _ c.loop-piece-test.true c.if-is_argument.true c.loop-piece.invariant
