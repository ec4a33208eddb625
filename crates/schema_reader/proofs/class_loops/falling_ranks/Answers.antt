-- What search doesn't prove of `falling_ranks`: what it returns, step by step.
use Rattle.std.proofs.Common.{ℕ, List, subst}
use Rattle.schema_reader.specs.private.Falling.{IsFalling}
use Rattle.schema_reader.proofs.class_loops.falling_ranks.Goals as goal

pub returns-then-are_falling : goal.returns-then-are_falling
returns-then-are_falling c = subst (λ (v : List ℕ). IsFalling c.args.classes.now v) c.as_slice.ensures.value
    (c.are_falling.ensures c.if-are_falling.true)
