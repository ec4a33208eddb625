-- The goals of `message_of` that no tactic closes, each by one lemma over plain lists.
use Rattle.std.proofs.lemmas.Result.{err_from_is_err_and}
use Rattle.ldap_msg.specs.View.{operation_view}
use Rattle.ldap_requests.proofs.Exits.{limit_weaker, from_plain}
use Rattle.ldap_msg.proofs.Exits.{content_operation, content_at, content_behind}
use Rattle.ldap_msg.proofs.decoding.message_of.Goals as goal

pub returns-in_err-op-clause-fault : goal.returns-in_err-op-clause-fault
returns-in_err-op-clause-fault c =
    let p = err_from_is_err_and c.from_residual-in_err-op.result c.from_residual-in_err-op.ensures.1 in
    rw (p.1, p.2) (limit_weaker c.in_err-op.field-0.0 _ _ _ _ (content_operation c.args.content.now
    c.in_ok-id.rest.now c.in_ok-id.id c.in_ok-id.ensures.found) (content_at c.args.content.now c.in_ok-id.rest.now
    c.in_ok-id.id c.in_ok-id.ensures.found) c.in_err-op.ensures.fault)

pub returns-in_err-controls-clause-fault : goal.returns-in_err-controls-clause-fault
returns-in_err-controls-clause-fault c =
    let p = err_from_is_err_and c.from_residual-in_err-controls.result c.from_residual-in_err-controls.ensures.1 in
    rw (p.1, p.2) (from_plain c.in_err-controls.field-0.0 _ _ _ (content_behind c.args.content.now c.in_ok-id.rest.now
    c.in_ok-op.rest.now c.in_ok-id.id (operation_view c.in_ok-op.op) c.in_ok-id.ensures.found
    c.in_ok-op.ensures.found) c.in_err-controls.ensures.fault)
