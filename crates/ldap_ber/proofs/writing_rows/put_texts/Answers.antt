-- The goals of `put_texts` that no tactic closes, each by one lemma over plain lists.
use Rattle.std.proofs.Common.{◌∙◌}
use Rattle.std.specs.Prelude.{string_bytes}
use Rattle.std.proofs.lemmas.Result.{err_from_is_err_and}
use Rattle.ldap_ber.specs.Element.{element_bytes}
use Rattle.ldap_ber.proofs.Puts.{kept_front}
use Rattle.ldap_ber.proofs.RowsWritten.{row_step, row_long, element_long}
use Rattle.ldap_ber.proofs.writing_rows.put_texts.Goals as goal

pub returns-in_err-write-clause-too_long : goal.returns-in_err-write-clause-too_long
returns-in_err-write-clause-too_long c =
    let p = err_from_is_err_and c.from_residual.result c.from_residual.ensures.1 in
    rw (p.1, p.2) (λ h. row_long (element_bytes 4) string_bytes c.args.texts.now c.loop-text.text-index
    c.text-item.result 4294967296 c.loop-text-test.true c.text-item.is
    (element_long 4 _ 4294967296 (rw c.as_bytes.ensures.value at (c.in_err-write.ensures.too_long.0 h))))

pub loop-text-preserved : goal.loop-text-preserved
loop-text-preserved c =
    row_step (element_bytes 4) string_bytes c.args.out.now.items c.loop-text.out.items c.write.new.out.items
    c.args.texts.now c.loop-text.text-index c.text-item.result c.loop-text-test.true c.text-item.is
    c.loop-text.invariant (rw c.as_bytes.ensures.value at c.in_ok-write.ensures.ok)

pub returns-in_err-write-clause-kept : goal.returns-in_err-write-clause-kept
returns-in_err-write-clause-kept c = kept_front _ _ _ (c.in_err-write.ensures.err ∙ c.loop-text.invariant)

pub returns-clause-kept : goal.returns-clause-kept
returns-clause-kept c = kept_front _ _ _ c.loop-text.invariant
