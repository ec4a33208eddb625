-- The goals of `change_of` that no tactic closes, each by one lemma over plain lists.
use Rattle.std.proofs.lemmas.Result.{err_from_is_err_and}
use Rattle.ldap_ber.proofs.Same.{plain_weaker}
use Rattle.ldap_parts.proofs.Modifies.{change_modification, change_end}
use Rattle.ldap_parts.proofs.decoding_modify.change_of.Goals as goal

pub returns-in_err-modification-clause-fault : goal.returns-in_err-modification-clause-fault
returns-in_err-modification-clause-fault c =
    let p = err_from_is_err_and c.from_residual-in_err-modification.result
    c.from_residual-in_err-modification.ensures.1 in
    rw (p.1, p.2) (plain_weaker c.in_err-modification.field-0.0 _ _ (change_modification c.args.content.now
    c.in_ok-number.rest.now c.in_ok-number.number c.in_ok-number.ensures.found) c.in_err-modification.ensures.fault)

pub returns-in_err-elements-clause-fault : goal.returns-in_err-elements-clause-fault
returns-in_err-elements-clause-fault c =
    let p = err_from_is_err_and c.from_residual-in_err-elements.result c.from_residual-in_err-elements.ensures.1 in
    rw (p.1, p.2) (plain_weaker c.in_err-elements.field-0.0 _ _ (change_end c.args.content.now c.in_ok-number.rest.now
    c.in_ok-modification.rest.now c.in_ok-number.number _ c.in_ok-number.ensures.found
    c.in_ok-modification.ensures.found) c.in_err-elements.ensures.fault)
