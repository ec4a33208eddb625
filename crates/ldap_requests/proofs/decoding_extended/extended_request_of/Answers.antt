-- The goals of `extended_request_of` that no tactic closes, each by one lemma over plain lists.
use Rattle.std.proofs.lemmas.Result.{err_from_is_err_and}
use Rattle.ldap_filter.proofs.ldap_ber.Same.{plain_weaker}
use Rattle.ldap_requests.proofs.Extends.{extended_value, extended_end}
use Rattle.ldap_requests.proofs.decoding_extended.extended_request_of.Goals as goal

pub returns-in_err-request_value-clause-fault : goal.returns-in_err-request_value-clause-fault
returns-in_err-request_value-clause-fault c =
    let p = err_from_is_err_and c.from_residual-in_err-request_value.result
    c.from_residual-in_err-request_value.ensures.1 in
    rw (p.1, p.2) (plain_weaker c.in_err-request_value.field-0.0 _ _ (extended_value c.args.content.now
    c.in_ok-request_name.rest.now _ c.in_ok-request_name.ensures.found) c.in_err-request_value.ensures.fault)

pub returns-in_err-elements-clause-fault : goal.returns-in_err-elements-clause-fault
returns-in_err-elements-clause-fault c =
    let p = err_from_is_err_and c.from_residual-in_err-elements.result c.from_residual-in_err-elements.ensures.1 in
    rw (p.1, p.2) (plain_weaker c.in_err-elements.field-0.0 _ _ (extended_end c.args.content.now
    c.in_ok-request_name.rest.now c.in_ok-request_value.rest.now _ _ c.in_ok-request_name.ensures.found
    c.in_ok-request_value.ensures.found) c.in_err-elements.ensures.fault)
