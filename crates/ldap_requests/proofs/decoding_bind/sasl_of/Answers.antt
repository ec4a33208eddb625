-- The goals of `sasl_of` that no tactic closes, each by one lemma over plain lists.
use Rattle.std.proofs.lemmas.Result.{err_from_is_err_and}
use Rattle.ldap_filter.proofs.ldap_ber.Same.{plain_weaker}
use Rattle.ldap_requests.proofs.Binds.{sasl_credentials, sasl_end}
use Rattle.ldap_requests.proofs.decoding_bind.sasl_of.Goals as goal

pub returns-in_err-credentials-clause-fault : goal.returns-in_err-credentials-clause-fault
returns-in_err-credentials-clause-fault c =
    let p = err_from_is_err_and c.from_residual-in_err-credentials.result c.from_residual-in_err-credentials.ensures.1
    in
    rw (p.1, p.2) (plain_weaker c.in_err-credentials.field-0.0 _ _ (sasl_credentials c.args.content.now
    c.in_ok-mechanism.rest.now _ c.in_ok-mechanism.ensures.found) c.in_err-credentials.ensures.fault)

pub returns-in_err-elements-clause-fault : goal.returns-in_err-elements-clause-fault
returns-in_err-elements-clause-fault c =
    let p = err_from_is_err_and c.from_residual-in_err-elements.result c.from_residual-in_err-elements.ensures.1 in
    rw (p.1, p.2) (plain_weaker c.in_err-elements.field-0.0 _ _
    (sasl_end c.args.content.now c.in_ok-mechanism.rest.now c.in_ok-credentials.rest.now _ _
    c.in_ok-mechanism.ensures.found c.in_ok-credentials.ensures.found) c.in_err-elements.ensures.fault)
