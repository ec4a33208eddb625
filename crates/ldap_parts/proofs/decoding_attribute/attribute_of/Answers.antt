-- The goals of `attribute_of` that no tactic closes, each by one lemma over plain lists.
use Rattle.std.proofs.lemmas.Result.{err_from_is_err_and}
use Rattle.ldap_ber.proofs.Same.{plain_weaker}
use Rattle.ldap_parts.proofs.Exits.{attribute_end, attribute_values}
use Rattle.ldap_parts.proofs.decoding_attribute.attribute_of.Goals as goal

pub returns-in_err-values-clause-fault : goal.returns-in_err-values-clause-fault
returns-in_err-values-clause-fault c =
    let p = err_from_is_err_and c.from_residual-in_err-values.result c.from_residual-in_err-values.ensures.1 in
    rw (p.1, p.2) (plain_weaker c.in_err-values.field-0.0 _ _ (attribute_values c.args.content.now
    c.in_ok-description.rest.now _ c.in_ok-description.ensures.found) c.in_err-values.ensures.fault)

pub returns-in_err-elements-clause-fault : goal.returns-in_err-elements-clause-fault
returns-in_err-elements-clause-fault c =
    let p = err_from_is_err_and c.from_residual-in_err-elements.result c.from_residual-in_err-elements.ensures.1 in
    rw (p.1, p.2) (plain_weaker c.in_err-elements.field-0.0 _ _ (attribute_end c.args.content.now
    c.in_ok-description.rest.now c.in_ok-values.rest.now _ _ c.in_ok-description.ensures.found
    c.in_ok-values.ensures.found) c.in_err-elements.ensures.fault)
