-- What search doesn't prove of `classes_named`: the loop, by a lemma of `Joined`.
use Rattle.entry_updates.proofs.Joined.{classes_step}
use Rattle.entry_updates.proofs.classes.classes_named.Goals as goal

pub loop-part-preserved : goal.loop-part-preserved
loop-part-preserved c =
    classes_step c.args.schema.now c.loop-part.classes.items c.push_classes.new.classes.items c.loop-part.rest.values
    c.in-Some.part.values.now c.in-Some.others.values c.args.attribute.now.values c.in_ok-push_classes.ensures
    c.in-Some.ensures.values c.loop-part.invariant
