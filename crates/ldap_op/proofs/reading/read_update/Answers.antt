-- The goals of `read_update` that no tactic closes, each by one lemma over plain lists.
use Rattle.std.proofs.lemmas.Result.{err_from_is_err_and}
use Rattle.ldap_parts.proofs.ldap_ber.Same.{plain_weaker}
use Rattle.ldap_parts.proofs.ldap_ber.RowLemmas.{some_left, none_left}
use Rattle.ldap_op.specs.View.{update_view}
use Rattle.ldap_op.proofs.Ops.{op_one, op_whole, op_update, op_found, error_only}
use Rattle.ldap_op.proofs.reading.read_update.Goals as goal

pub returns-then-not-is_empty-clause-only : goal.returns-then-not-is_empty-clause-only
returns-then-not-is_empty-clause-only c = λ op h.
    absurd (op_whole c.args.octets.now c.in_ok-element.element.content.now c.in_ok-element.rest.now
    c.in_ok-element.element.first (some_left c.is_empty.result _ c.is_empty.ensures c.if-is_empty.false)
    c.in_ok-element.ensures.found (some_left c.is_empty-2.result _ c.is_empty-2.ensures c.if-not-is_empty.true)
    (op, h))

pub returns-then-not-is_empty-clause-fault : goal.returns-then-not-is_empty-clause-fault
returns-then-not-is_empty-clause-fault c =
    op_whole c.args.octets.now c.in_ok-element.element.content.now c.in_ok-element.rest.now
    c.in_ok-element.element.first (some_left c.is_empty.result _ c.is_empty.ensures c.if-is_empty.false)
    c.in_ok-element.ensures.found (some_left c.is_empty-2.result _ c.is_empty-2.ensures c.if-not-is_empty.true)

pub returns-in_err-update-clause-only : goal.returns-in_err-update-clause-only
returns-in_err-update-clause-only c =
    let p = err_from_is_err_and c.from_residual-in_err-update.result c.from_residual-in_err-update.ensures.1 in
    rw (p.1, p.2) (error_only c.in_err-update.field-0.0 c.args.octets.now (plain_weaker c.in_err-update.field-0.0 _ _
    (op_update c.args.octets.now c.in_ok-element.element.content.now c.in_ok-element.rest.now
    c.in_ok-element.element.first (some_left c.is_empty.result _ c.is_empty.ensures c.if-is_empty.false)
    c.in_ok-element.ensures.found) c.in_err-update.ensures.fault))

pub returns-in_err-update-clause-fault : goal.returns-in_err-update-clause-fault
returns-in_err-update-clause-fault c =
    let p = err_from_is_err_and c.from_residual-in_err-update.result c.from_residual-in_err-update.ensures.1 in
    rw (p.1, p.2) (plain_weaker c.in_err-update.field-0.0 _ _
    (op_update c.args.octets.now c.in_ok-element.element.content.now c.in_ok-element.rest.now
    c.in_ok-element.element.first (some_left c.is_empty.result _ c.is_empty.ensures c.if-is_empty.false)
    c.in_ok-element.ensures.found) c.in_err-update.ensures.fault)

pub returns-clause-only : goal.returns-clause-only
returns-clause-only c = λ op h.
    op_one (update_view c.in_ok-update.update) op c.args.octets.now
    (op_found (update_view c.in_ok-update.update) c.args.octets.now c.in_ok-element.element.content.now
    c.in_ok-element.rest.now c.in_ok-element.element.first c.in_ok-element.ensures.found
    (none_left c.is_empty-2.result _ c.is_empty-2.ensures c.if-not-is_empty.false) c.in_ok-update.ensures.found) h
