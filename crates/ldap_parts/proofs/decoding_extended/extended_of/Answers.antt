-- The goals of `extended_of` that no tactic closes, each by one lemma over plain lists.
use Rattle.std.proofs.lemmas.Result.{err_from_is_err_and}
use Rattle.ldap_ber.proofs.Same.{plain_weaker}
use Rattle.ldap_parts.proofs.ResponseExits.{extended_end, extended_name, extended_value}
use Rattle.ldap_parts.proofs.decoding_extended.extended_of.Goals as goal

pub returns-in_err-response_name-clause-fault : goal.returns-in_err-response_name-clause-fault
returns-in_err-response_name-clause-fault c =
    let p = err_from_is_err_and c.from_residual-in_err-response_name.result
    c.from_residual-in_err-response_name.ensures.1 in
    rw (p.1, p.2) (plain_weaker c.in_err-response_name.field-0.0 _ _ (extended_name c.args.content.now
    c.in_ok-ldap_result.rest.now _ c.in_ok-ldap_result.ensures.found) c.in_err-response_name.ensures.fault)

pub returns-in_err-response_value-clause-fault : goal.returns-in_err-response_value-clause-fault
returns-in_err-response_value-clause-fault c =
    let p = err_from_is_err_and c.from_residual-in_err-response_value.result
    c.from_residual-in_err-response_value.ensures.1 in
    rw (p.1, p.2) (plain_weaker c.in_err-response_value.field-0.0 _ _ (extended_value c.args.content.now
    c.in_ok-ldap_result.rest.now c.in_ok-response_name.rest.now _ _ c.in_ok-ldap_result.ensures.found
    c.in_ok-response_name.ensures.found) c.in_err-response_value.ensures.fault)

pub returns-in_err-elements-clause-fault : goal.returns-in_err-elements-clause-fault
returns-in_err-elements-clause-fault c =
    let p = err_from_is_err_and c.from_residual-in_err-elements.result c.from_residual-in_err-elements.ensures.1 in
    rw (p.1, p.2) (plain_weaker c.in_err-elements.field-0.0 _ _ (extended_end c.args.content.now
    c.in_ok-ldap_result.rest.now c.in_ok-response_name.rest.now c.in_ok-response_value.rest.now _ _ _
    c.in_ok-ldap_result.ensures.found c.in_ok-response_name.ensures.found c.in_ok-response_value.ensures.found)
    c.in_err-elements.ensures.fault)
