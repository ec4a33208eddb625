-- The goals of `put_row` that no tactic closes, each by one lemma over plain lists.
use Rattle.std.proofs.Common.{ℕ, List, ◌++◌, ap, ◌∙◌}
use Rattle.std.proofs.lemmas.Result.{err_from_is_err_and}
use Rattle.ldap_ber.specs.Element.{element_bytes}
use Rattle.ldap_ber.proofs.RowsWritten.{row_step, row_long, element_long}
use Rattle.ldap_parts.specs.View.{control_view}
use Rattle.ldap_parts.specs.Written.{control_content, control_bytes}
use Rattle.ldap_ber.proofs.Puts.{kept_front, same_error}
use Rattle.ldap_parts.proofs.encoding_control.put_row.Goals as goal

pub returns-in_err-content-clause-too_long : goal.returns-in_err-content-clause-too_long
returns-in_err-content-clause-too_long c =
    let p = err_from_is_err_and c.from_residual.result c.from_residual.ensures.1 in
    rw (p.1, p.2) (λ h. row_long control_bytes control_view c.args.controls.now c.loop-control.control-index
    c.control-item.result 4294967296 c.loop-control-test.true c.control-item.is
    (element_long 48 (control_content (control_view c.control-item.result)) 4294967296
    (c.in_err-content.ensures.too_long (same_error _ _ h))))

pub returns-in_err-write-clause-too_long : goal.returns-in_err-write-clause-too_long
returns-in_err-write-clause-too_long c =
    let p = err_from_is_err_and c.from_residual-in_err-write.result c.from_residual-in_err-write.ensures.1 in
    rw (p.1, p.2) (λ h. row_long control_bytes control_view c.args.controls.now c.loop-control.control-index
    c.control-item.result 4294967296 c.loop-control-test.true c.control-item.is
    (element_long 48 (control_content (control_view c.control-item.result)) 4294967296
    (rw (c.deref.ensures.value, c.in_ok-content.ensures.ok) at (c.in_err-write.ensures.too_long.0 h))))

pub loop-control-preserved : goal.loop-control-preserved
loop-control-preserved c =
    row_step control_bytes control_view c.args.out.now.items c.loop-control.out.items c.write.new.out.items
    c.args.controls.now c.loop-control.control-index c.control-item.result c.loop-control-test.true
    c.control-item.is c.loop-control.invariant
    (c.in_ok-write.ensures.ok ∙ ap (λ (x : List ℕ). c.loop-control.out.items ++ element_bytes 48 x)
    (c.deref.ensures.value ∙ c.in_ok-content.ensures.ok))

pub returns-in_err-content-clause-kept : goal.returns-in_err-content-clause-kept
returns-in_err-content-clause-kept c = kept_front _ _ _ c.loop-control.invariant

pub returns-in_err-write-clause-kept : goal.returns-in_err-write-clause-kept
returns-in_err-write-clause-kept c = kept_front _ _ _ (c.in_err-write.ensures.err ∙ c.loop-control.invariant)

pub returns-clause-kept : goal.returns-clause-kept
returns-clause-kept c = kept_front _ _ _ c.loop-control.invariant
