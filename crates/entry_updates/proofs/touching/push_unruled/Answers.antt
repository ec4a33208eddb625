-- What search doesn't prove of `push_unruled`: the loop, by lemmas of `Untouched`.
use Rattle.std.proofs.Common.{sym, ap, is_some}
use Rattle.entry_updates.proofs.Untouched.{unruled_pushed, unruled_passed}
use Rattle.entry_updates.proofs.touching.push_unruled.Goals as goal
use Rattle.entry_updates.proofs.touching.push_unruled.Goals.{in-None+in_ok-push-in-None, in-Some}

pub loop-attribute-preserved : goal.loop-attribute-preserved
loop-attribute-preserved c =
    let i = c.loop-attribute.attribute-index in
    let a = c.attribute-item.result in
    elim c.match-equality_rule.branch [
      | in-Some w ↦ rw w.types-is (unruled_passed c.args.schema.now c.args.attributes.now i a c.args.types.now.items
          c.loop-attribute.types.items c.loop-attribute-test.true c.attribute-item.is
          (ap is_some (rw c.type_id-type_id.ensures at (sym w.in-Some.ensures))) c.loop-attribute.invariant)
      | in-None+in_ok-push-in-None w ↦ rw w.types-is (unruled_pushed c.args.schema.now c.args.attributes.now i a
          c.args.types.now.items c.loop-attribute.types.items w.push.new.self.items c.loop-attribute-test.true
          c.attribute-item.is (ap is_some (rw c.type_id-type_id.ensures at (sym w.in-None.ensures))) c.loop-attribute.invariant
          (rw c.type_id-type_id.ensures at w.in_ok-push-in-None.ensures.items))
    ]
