-- The goals of `control_of` that no tactic closes, each by one lemma over plain lists.
use Rattle.std.proofs.lemmas.Result.{err_from_is_err_and}
use Rattle.ldap_ber.proofs.Same.{plain_weaker}
use Rattle.ldap_parts.proofs.Exits.{control_criticality, control_end, control_value}
use Rattle.ldap_parts.proofs.decoding_control.control_of.Goals as goal

pub returns-in_err-criticality-clause-fault : goal.returns-in_err-criticality-clause-fault
returns-in_err-criticality-clause-fault c =
    let p = err_from_is_err_and c.from_residual-in_err-criticality.result c.from_residual-in_err-criticality.ensures.1
    in
    rw (p.1, p.2) (plain_weaker c.in_err-criticality.field-0.0 _ _ (control_criticality c.args.content.now
    c.in_ok-control_type.rest.now _ c.in_ok-control_type.ensures.found) c.in_err-criticality.ensures.fault)

pub returns-in_err-value-clause-fault : goal.returns-in_err-value-clause-fault
returns-in_err-value-clause-fault c =
    let p = err_from_is_err_and c.from_residual-in_err-value.result c.from_residual-in_err-value.ensures.1 in
    rw (p.1, p.2) (plain_weaker c.in_err-value.field-0.0 _ _ (control_value c.args.content.now
    c.in_ok-control_type.rest.now c.in_ok-criticality.rest.now _ _ c.in_ok-control_type.ensures.found
    c.in_ok-criticality.ensures.found) c.in_err-value.ensures.fault)

pub returns-in_err-elements-clause-fault : goal.returns-in_err-elements-clause-fault
returns-in_err-elements-clause-fault c =
    let p = err_from_is_err_and c.from_residual-in_err-elements.result c.from_residual-in_err-elements.ensures.1 in
    rw (p.1, p.2) (plain_weaker c.in_err-elements.field-0.0 _ _ (control_end c.args.content.now
    c.in_ok-control_type.rest.now c.in_ok-criticality.rest.now c.in_ok-value.rest.now _ _ _
    c.in_ok-control_type.ensures.found c.in_ok-criticality.ensures.found c.in_ok-value.ensures.found)
    c.in_err-elements.ensures.fault)
