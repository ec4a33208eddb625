-- The goals of `authentication_field` that no tactic closes, each by one lemma over plain lists.
use Rattle.std.proofs.lemmas.Result.{err_from_is_err_and}
use Rattle.ldap_filter.proofs.ldap_ber.Same.{plain_weaker}
use Rattle.ldap_requests.proofs.Binds.{simple_there, sasl_there}
use Rattle.ldap_requests.proofs.decoding_bind.authentication_field.Goals as goal

pub returns-in_err-password-clause-fault : goal.returns-in_err-password-clause-fault
returns-in_err-password-clause-fault c =
    let p = err_from_is_err_and c.from_residual.result c.from_residual.ensures.1 in
    rw (p.1, p.2) (plain_weaker c.in_err-password.field-0.0 _ _ (simple_there c.args.octets.now
    c.if-has_first.ensures.yes) c.in_err-password.ensures.fault)

pub returns-in_err-sasl-clause-fault : goal.returns-in_err-sasl-clause-fault
returns-in_err-sasl-clause-fault c =
    let p = err_from_is_err_and c.from_residual-in_err-sasl.result c.from_residual-in_err-sasl.ensures.1 in
    rw (p.1, p.2) (plain_weaker c.in_err-sasl.field-0.0 _ _ (sasl_there c.args.octets.now c.if-has_first.ensures.no)
    c.in_err-sasl.ensures.fault)
