-- The goals of `ava_of` that no tactic closes, each by one lemma over plain lists.
use Rattle.std.proofs.lemmas.Result.{err_from_is_err_and}
use Rattle.ldap_filter.proofs.ldap_ber.Same.{plain_weaker}
use Rattle.ldap_requests.proofs.Compares.{ava_value, ava_end}
use Rattle.ldap_requests.proofs.decoding_compare.ava_of.Goals as goal

pub returns-in_err-assertion_value-clause-fault : goal.returns-in_err-assertion_value-clause-fault
returns-in_err-assertion_value-clause-fault c =
    let p = err_from_is_err_and c.from_residual-in_err-assertion_value.result
    c.from_residual-in_err-assertion_value.ensures.1 in
    rw (p.1, p.2) (plain_weaker c.in_err-assertion_value.field-0.0 _ _
    (ava_value c.args.content.now c.in_ok-attribute_desc.rest.now _ c.in_ok-attribute_desc.ensures.found)
    c.in_err-assertion_value.ensures.fault)

pub returns-in_err-elements-clause-fault : goal.returns-in_err-elements-clause-fault
returns-in_err-elements-clause-fault c =
    let p = err_from_is_err_and c.from_residual-in_err-elements.result c.from_residual-in_err-elements.ensures.1 in
    rw (p.1, p.2) (plain_weaker c.in_err-elements.field-0.0 _ _
    (ava_end c.args.content.now c.in_ok-attribute_desc.rest.now c.in_ok-assertion_value.rest.now _ _
    c.in_ok-attribute_desc.ensures.found c.in_ok-assertion_value.ensures.found) c.in_err-elements.ensures.fault)
