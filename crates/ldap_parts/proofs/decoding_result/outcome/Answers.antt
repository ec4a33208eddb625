-- The goals of `outcome` that no tactic closes, each by one lemma over plain lists.
use Rattle.std.proofs.lemmas.Result.{err_from_is_err_and}
use Rattle.ldap_ber.proofs.Same.{plain_weaker}
use Rattle.ldap_parts.proofs.Exits.{outcome_matched, outcome_message}
use Rattle.ldap_parts.proofs.decoding_result.outcome.Goals as goal

pub returns-in_err-matched_dn-clause-fault : goal.returns-in_err-matched_dn-clause-fault
returns-in_err-matched_dn-clause-fault c =
    let p = err_from_is_err_and c.from_residual-in_err-matched_dn.result c.from_residual-in_err-matched_dn.ensures.1 in
    rw (p.1, p.2) (plain_weaker c.in_err-matched_dn.field-0.0 _ _ (outcome_matched c.args.octets.now
    c.in_ok-code.octets.now c.in_ok-code.code c.in_ok-code.ensures.found) c.in_err-matched_dn.ensures.fault)

pub returns-in_err-diagnostic_message-clause-fault : goal.returns-in_err-diagnostic_message-clause-fault
returns-in_err-diagnostic_message-clause-fault c =
    let p = err_from_is_err_and c.from_residual-in_err-diagnostic_message.result
    c.from_residual-in_err-diagnostic_message.ensures.1 in
    rw (p.1, p.2) (plain_weaker c.in_err-diagnostic_message.field-0.0 _ _ (outcome_message c.args.octets.now
    c.in_ok-code.octets.now c.in_ok-matched_dn.octets.now _ c.in_ok-code.code c.in_ok-code.ensures.found
    c.in_ok-matched_dn.ensures.found) c.in_err-diagnostic_message.ensures.fault)
