-- The goals of `result_field` that no tactic closes, each by one lemma over plain lists.
use Rattle.std.proofs.lemmas.Result.{err_from_is_err_and}
use Rattle.ldap_ber.proofs.Same.{plain_weaker}
use Rattle.ldap_parts.proofs.Exits.{result_referral}
use Rattle.ldap_parts.proofs.decoding_result.result_field.Goals as goal

pub returns-in_err-referral-clause-fault : goal.returns-in_err-referral-clause-fault
returns-in_err-referral-clause-fault c =
    let p = err_from_is_err_and c.from_residual-in_err-referral.result c.from_residual-in_err-referral.ensures.1 in
    rw (p.1, p.2) (plain_weaker c.in_err-referral.field-0.0 _ _ (result_referral c.args.octets.now
    c.in_ok-code.rest.now _ _ c.in_ok-code.code c.in_ok-code.ensures.found) c.in_err-referral.ensures.fault)
