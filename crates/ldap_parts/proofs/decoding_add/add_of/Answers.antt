-- The goals of `add_of` that no tactic closes, each by one lemma over plain lists.
use Rattle.std.proofs.lemmas.Result.{err_from_is_err_and}
use Rattle.ldap_ber.proofs.Same.{plain_weaker}
use Rattle.ldap_parts.proofs.UpdateExits.{add_attributes, add_end}
use Rattle.ldap_parts.proofs.decoding_add.add_of.Goals as goal

pub returns-in_err-attributes-clause-fault : goal.returns-in_err-attributes-clause-fault
returns-in_err-attributes-clause-fault c =
    let p = err_from_is_err_and c.from_residual-in_err-attributes.result c.from_residual-in_err-attributes.ensures.1 in
    rw (p.1, p.2) (plain_weaker c.in_err-attributes.field-0.0 _ _ (add_attributes c.args.content.now
    c.in_ok-entry.rest.now _ c.in_ok-entry.ensures.found) c.in_err-attributes.ensures.fault)

pub returns-in_err-elements-clause-fault : goal.returns-in_err-elements-clause-fault
returns-in_err-elements-clause-fault c =
    let p = err_from_is_err_and c.from_residual-in_err-elements.result c.from_residual-in_err-elements.ensures.1 in
    rw (p.1, p.2) (plain_weaker c.in_err-elements.field-0.0 _ _ (add_end c.args.content.now c.in_ok-entry.rest.now
    c.in_ok-attributes.rest.now _ _ c.in_ok-entry.ensures.found c.in_ok-attributes.ensures.found)
    c.in_err-elements.ensures.fault)
