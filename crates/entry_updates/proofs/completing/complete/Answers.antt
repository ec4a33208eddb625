-- What search doesn't prove of `complete`: `loop-attribute-preserved`, by lemmas of `Completed`.
use Rattle.entry_updates.proofs.Completed.{completed_more, keyed_more}
use Rattle.entry_updates.proofs.completing.complete.Goals as goal

pub loop-attribute-preserved : goal.loop-attribute-preserved
loop-attribute-preserved c = (
  completed_more c.args.schema.now c.loop-attribute.done.items c.push.new.self.items c.next.new.self.rest.items
      c.loop-attribute.attribute-iterator.rest.items c.in-Some.attribute c.in_ok-complete_attribute.field-0 _
      c.in_ok-push.ensures.items c.in_ok-complete_attribute.ensures.shown c.in-Some.ensures.steps.0
      c.loop-attribute.invariant.0,
  keyed_more c.args.schema.now c.args.attributes.items c.loop-attribute.done.items c.push.new.self.items
      c.next.new.self.rest.items c.loop-attribute.attribute-iterator.rest.items c.in-Some.attribute
      c.in_ok-complete_attribute.field-0
      c.in_ok-push.ensures.items c.in-Some.ensures.steps.0 c.in_ok-complete_attribute.ensures.keyed
      c.loop-attribute.invariant.1,
)
