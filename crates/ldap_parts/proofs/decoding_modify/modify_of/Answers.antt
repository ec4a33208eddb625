-- The goals of `modify_of` that no tactic closes, each by one lemma over plain lists.
use Rattle.std.proofs.lemmas.Result.{err_from_is_err_and}
use Rattle.ldap_ber.proofs.Same.{plain_weaker}
use Rattle.ldap_parts.proofs.Modifies.{modify_changes, modify_end}
use Rattle.ldap_parts.proofs.decoding_modify.modify_of.Goals as goal

pub returns-in_err-changes-clause-fault : goal.returns-in_err-changes-clause-fault
returns-in_err-changes-clause-fault c =
    let p = err_from_is_err_and c.from_residual-in_err-changes.result c.from_residual-in_err-changes.ensures.1 in
    rw (p.1, p.2) (plain_weaker c.in_err-changes.field-0.0 _ _ (modify_changes c.args.content.now
    c.in_ok-object.rest.now _ c.in_ok-object.ensures.found) c.in_err-changes.ensures.fault)

pub returns-in_err-elements-clause-fault : goal.returns-in_err-elements-clause-fault
returns-in_err-elements-clause-fault c =
    let p = err_from_is_err_and c.from_residual-in_err-elements.result c.from_residual-in_err-elements.ensures.1 in
    rw (p.1, p.2) (plain_weaker c.in_err-elements.field-0.0 _ _ (modify_end c.args.content.now c.in_ok-object.rest.now
    c.in_ok-changes.rest.now _ _ c.in_ok-object.ensures.found c.in_ok-changes.ensures.found)
    c.in_err-elements.ensures.fault)
