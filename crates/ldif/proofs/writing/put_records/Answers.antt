-- LDIF, writing: the loop of `put_records`.
use Rattle.std.proofs.Common.{arith, ◌∙◌}
use Rattle.std.proofs.lemmas.Grind.{common_steps}
use Rattle.ldif.proofs.Texts.{record_written}
use Rattle.ldif.proofs.writing.put_records.Goals as goal

pub loop-item-preserved : goal.loop-item-preserved
loop-item-preserved c = (
  record_written c.args.records.now c.loop-item.item-index c.item-item.result c.loop-item.out.items
      c.put_record.new.out.items c.loop-item-test.true c.item-item.is c.in_ok-put_record.ensures.ok
      ∙ c.loop-item.invariant.0,
  grind (arith, common_steps, c.in_ok-put_record.ensures.kept, c.loop-item.invariant.1),
)
