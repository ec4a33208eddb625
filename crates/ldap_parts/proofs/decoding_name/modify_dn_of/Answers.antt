-- The goals of `modify_dn_of` that no tactic closes, each by one lemma over plain lists.
use Rattle.std.proofs.lemmas.Result.{err_from_is_err_and}
use Rattle.ldap_ber.proofs.Same.{plain_weaker}
use Rattle.ldap_parts.proofs.Names.{modify_dn_superior, modify_dn_end}
use Rattle.ldap_parts.proofs.decoding_name.modify_dn_of.Goals as goal

pub returns-in_err-new_superior-clause-fault : goal.returns-in_err-new_superior-clause-fault
returns-in_err-new_superior-clause-fault c =
    let p = err_from_is_err_and c.from_residual-in_err-new_superior.result
    c.from_residual-in_err-new_superior.ensures.1 in
    rw (p.1, p.2) (plain_weaker c.in_err-new_superior.field-0.0 _ _ (modify_dn_superior c.args.content.now
    c.in_ok-entry.rest.now _ _ _ c.in_ok-entry.ensures.found) c.in_err-new_superior.ensures.fault)

pub returns-in_err-elements-clause-fault : goal.returns-in_err-elements-clause-fault
returns-in_err-elements-clause-fault c =
    let p = err_from_is_err_and c.from_residual-in_err-elements.result c.from_residual-in_err-elements.ensures.1 in
    rw (p.1, p.2) (plain_weaker c.in_err-elements.field-0.0 _ _ (modify_dn_end c.args.content.now
    c.in_ok-entry.rest.now c.in_ok-new_superior.rest.now _ _ _ _ c.in_ok-entry.ensures.found
    c.in_ok-new_superior.ensures.found) c.in_err-elements.ensures.fault)
