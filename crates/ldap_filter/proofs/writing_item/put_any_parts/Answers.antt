-- The goals of `put_any_parts` that no tactic closes, each by one lemma over plain lists.
use Rattle.std.proofs.lemmas.Result.{err_from_is_err_and}
use Rattle.ldap_ber.specs.Element.{element_bytes}
use Rattle.ldap_ber.proofs.RowsWritten.{row_step, row_long, element_long}
use Rattle.ldap_filter.proofs.writing_item.put_any_parts.Goals as goal

pub returns-in_err-write-clause-too_long : goal.returns-in_err-write-clause-too_long
returns-in_err-write-clause-too_long c =
    let p = err_from_is_err_and c.from_residual.result c.from_residual.ensures.1 in
    rw (p.1, p.2) (λ h. row_long (element_bytes 129) (λ v. v.items) c.args.parts.now c.loop-part.part-index
    c.part-item.result 4294967296 c.loop-part-test.true c.part-item.is (element_long 129 _ 4294967296
    (rw c.deref.ensures.value at (c.in_err-write.ensures.too_long.0 h))))

pub loop-part-preserved : goal.loop-part-preserved
loop-part-preserved c =
    row_step (element_bytes 129) (λ v. v.items) c.args.out.now.items c.loop-part.out.items c.write.new.out.items
    c.args.parts.now c.loop-part.part-index c.part-item.result c.loop-part-test.true c.part-item.is
    c.loop-part.invariant (rw c.deref.ensures.value at c.in_ok-write.ensures.ok)
