-- The goals of `put_changes` that no tactic closes, each by one lemma over plain lists.
use Rattle.std.proofs.Common.{ℕ, List, ◌++◌, ap, ◌∙◌}
use Rattle.std.proofs.lemmas.Result.{err_from_is_err_and}
use Rattle.ldap_ber.specs.Element.{element_bytes}
use Rattle.ldap_ber.proofs.RowsWritten.{row_step, row_long, element_long}
use Rattle.ldap_parts.specs.UpdateView.{change_view}
use Rattle.ldap_parts.specs.UpdatesWritten.{change_content, change_bytes}
use Rattle.ldap_ber.proofs.Puts.{same_error}
use Rattle.ldap_parts.proofs.encoding_modify.put_changes.Goals as goal

pub returns-in_err-content-clause-too_long : goal.returns-in_err-content-clause-too_long
returns-in_err-content-clause-too_long c =
    let p = err_from_is_err_and c.from_residual.result c.from_residual.ensures.1 in
    rw (p.1, p.2) (λ h. row_long change_bytes change_view c.args.changes.now c.loop-change.change-index
    c.change-item.result 4294967296 c.loop-change-test.true c.change-item.is
    (element_long 48 (change_content (change_view c.change-item.result)) 4294967296
    (c.in_err-content.ensures.too_long (same_error _ _ h))))

pub returns-in_err-write-clause-too_long : goal.returns-in_err-write-clause-too_long
returns-in_err-write-clause-too_long c =
    let p = err_from_is_err_and c.from_residual-in_err-write.result c.from_residual-in_err-write.ensures.1 in
    rw (p.1, p.2) (λ h. row_long change_bytes change_view c.args.changes.now c.loop-change.change-index
    c.change-item.result 4294967296 c.loop-change-test.true c.change-item.is
    (element_long 48 (change_content (change_view c.change-item.result)) 4294967296
    (rw (c.deref.ensures.value, c.in_ok-content.ensures.ok) at (c.in_err-write.ensures.too_long.0 h))))

pub loop-change-preserved : goal.loop-change-preserved
loop-change-preserved c =
    row_step change_bytes change_view c.args.out.now.items c.loop-change.out.items c.write.new.out.items
    c.args.changes.now c.loop-change.change-index c.change-item.result c.loop-change-test.true c.change-item.is
    c.loop-change.invariant
    (c.in_ok-write.ensures.ok ∙ ap (λ (x : List ℕ). c.loop-change.out.items ++ element_bytes 48 x)
    (c.deref.ensures.value ∙ c.in_ok-content.ensures.ok))
