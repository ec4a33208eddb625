-- What search doesn't prove of `are_falling`: `loop-number-preserved` and what it returns, by lemmas of
-- `FallingClasses`.
use Rattle.std.proofs.Common.{sym, ◌∙◌}
use Rattle.schema_reader.proofs.FallingClasses.{falling_more, falling_whole}
use Rattle.schema_reader.proofs.class_loops.are_falling.Goals as goal

pub loop-number-preserved : goal.loop-number-preserved
loop-number-preserved c =
    falling_more c.args.classes.now c.args.ranks.now c.loop-number.number c.new-class.result
    c.superclasses_of.result.now c.new-class.ensures c.superclasses_of.ensures
    (sym c.is_none_higher.ensures ∙ c.if-not-is_none_higher.false) c.loop-number.invariant

pub returns : goal.returns
returns c = λ t. falling_whole c.args.classes.now c.args.ranks.now c.loop-number.number c.loop-number-test.false
    c.loop-number.invariant
