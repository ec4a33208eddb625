-- The goals of `operation_field` that no tactic closes, each by one lemma over plain lists.
use Rattle.std.proofs.lemmas.Result.{err_from_is_err_and}
use Rattle.ldap_requests.proofs.Exits.{limit_weaker}
use Rattle.ldap_msg.proofs.Exits.{operation_inside, operation_at}
use Rattle.ldap_msg.proofs.decoding.operation_field.Goals as goal

pub returns-in_err-op-clause-fault : goal.returns-in_err-op-clause-fault
returns-in_err-op-clause-fault c =
    let p = err_from_is_err_and c.from_residual-in_err-op.result c.from_residual-in_err-op.ensures.1 in
    rw (p.1, p.2) (limit_weaker c.in_err-op.field-0.0 _ _ _ _ (operation_inside c.args.octets.now
    c.in_ok-element.element.content.now c.in_ok-element.rest.now c.in_ok-element.element.first
    c.in_ok-element.ensures.found) (operation_at c.args.octets.now c.in_ok-element.element.content.now
    c.in_ok-element.rest.now c.in_ok-element.element.first c.in_ok-element.ensures.found) c.in_err-op.ensures.fault)
