-- The goals of `sasl_field` that no tactic closes, each by one lemma over plain lists.
use Rattle.std.proofs.lemmas.Result.{err_from_is_err_and}
use Rattle.ldap_filter.proofs.ldap_ber.Same.{plain_weaker}
use Rattle.ldap_filter.proofs.ldap_ber.RowLemmas.{part_inside}
use Rattle.ldap_requests.specs.Grammar.{IsSaslCredentials}
use Rattle.ldap_requests.proofs.decoding_bind.sasl_field.Goals as goal

pub returns-in_err-sasl-clause-fault : goal.returns-in_err-sasl-clause-fault
returns-in_err-sasl-clause-fault c =
    let p = err_from_is_err_and c.from_residual-in_err-sasl.result c.from_residual-in_err-sasl.ensures.1 in
    rw (p.1, p.2) (plain_weaker c.in_err-sasl.field-0.0 _ _ (part_inside IsSaslCredentials c.args.octets.now
    c.in_ok-content.content.now c.in_ok-content.rest.now 163 c.in_ok-content.ensures.found)
    c.in_err-sasl.ensures.fault)
