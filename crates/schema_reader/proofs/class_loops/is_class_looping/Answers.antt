-- What search doesn't prove of `is_class_looping`: what it returns, by lemmas of `FallingClasses`.
use Rattle.schema_reader.proofs.FallingClasses.{off_loop}
use Rattle.schema_reader.proofs.class_loops.is_class_looping.Goals as goal

pub returns-then-is_each_lower : goal.returns-then-is_each_lower
returns-then-is_each_lower c =
    off_loop c.args.classes.now c.args.ranks.now c.args.number c.new-class.result c.superclasses_of-direct.result.now
    c.is_each_lower.result c.requires c.new-class.ensures c.superclasses_of-direct.ensures c.is_each_lower.ensures
    c.if-is_each_lower.true
