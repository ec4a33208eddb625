-- The goals of `new_name` that no tactic closes, each by one lemma over plain lists.
use Rattle.std.proofs.lemmas.Result.{err_from_is_err_and}
use Rattle.ldap_ber.proofs.Same.{plain_weaker}
use Rattle.ldap_parts.proofs.Names.{name_newrdn, name_flag}
use Rattle.ldap_parts.proofs.decoding_name.new_name.Goals as goal

pub returns-in_err-newrdn-clause-fault : goal.returns-in_err-newrdn-clause-fault
returns-in_err-newrdn-clause-fault c =
    let p = err_from_is_err_and c.from_residual-in_err-newrdn.result c.from_residual-in_err-newrdn.ensures.1 in
    rw (p.1, p.2) (plain_weaker c.in_err-newrdn.field-0.0 _ _ (name_newrdn c.args.octets.now c.in_ok-entry.octets.now
    _ c.in_ok-entry.ensures.found) c.in_err-newrdn.ensures.fault)

pub returns-in_err-deleteoldrdn-clause-fault : goal.returns-in_err-deleteoldrdn-clause-fault
returns-in_err-deleteoldrdn-clause-fault c =
    let p = err_from_is_err_and c.from_residual-in_err-deleteoldrdn.result
    c.from_residual-in_err-deleteoldrdn.ensures.1 in
    rw (p.1, p.2) (plain_weaker c.in_err-deleteoldrdn.field-0.0 _ _
    (name_flag c.args.octets.now c.in_ok-entry.octets.now c.in_ok-newrdn.octets.now _ _
    c.in_ok-entry.ensures.found c.in_ok-newrdn.ensures.found) c.in_err-deleteoldrdn.ensures.fault)
