-- The goals of `bind_of` that no tactic closes, each by one lemma over plain lists.
use Rattle.std.proofs.lemmas.Result.{err_from_is_err_and}
use Rattle.ldap_filter.proofs.ldap_ber.Same.{plain_weaker}
use Rattle.ldap_requests.proofs.Binds.{bind_name, bind_authentication, bind_end}
use Rattle.ldap_requests.proofs.decoding_bind.bind_of.Goals as goal

pub returns-in_err-name-clause-fault : goal.returns-in_err-name-clause-fault
returns-in_err-name-clause-fault c =
    let p = err_from_is_err_and c.from_residual-in_err-name.result c.from_residual-in_err-name.ensures.1 in
    rw (p.1, p.2) (plain_weaker c.in_err-name.field-0.0 _ _ (bind_name c.args.content.now c.in_ok-version.rest.now
    c.in_ok-version.version c.in_ok-version.ensures.found) c.in_err-name.ensures.fault)

pub returns-in_err-authentication-clause-fault : goal.returns-in_err-authentication-clause-fault
returns-in_err-authentication-clause-fault c =
    let p = err_from_is_err_and c.from_residual-in_err-authentication.result
    c.from_residual-in_err-authentication.ensures.1 in
    rw (p.1, p.2) (plain_weaker c.in_err-authentication.field-0.0 _ _ (bind_authentication c.args.content.now
    c.in_ok-version.rest.now c.in_ok-name.rest.now _ c.in_ok-version.version c.in_ok-version.ensures.found
    c.in_ok-name.ensures.found) c.in_err-authentication.ensures.fault)

pub returns-in_err-elements-clause-fault : goal.returns-in_err-elements-clause-fault
returns-in_err-elements-clause-fault c =
    let p = err_from_is_err_and c.from_residual-in_err-elements.result c.from_residual-in_err-elements.ensures.1 in
    rw (p.1, p.2) (plain_weaker c.in_err-elements.field-0.0 _ _ (bind_end c.args.content.now c.in_ok-version.rest.now
    c.in_ok-name.rest.now c.in_ok-authentication.rest.now _ c.in_ok-version.version _
    c.in_ok-version.ensures.found c.in_ok-name.ensures.found c.in_ok-authentication.ensures.found)
    c.in_err-elements.ensures.fault)
