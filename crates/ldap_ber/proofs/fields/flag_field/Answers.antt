-- The goals of `flag_field` that no tactic closes, each by one lemma over plain lists.
use Rattle.std.proofs.lemmas.Result.{err_from_is_err_and}
use Rattle.ldap_ber.proofs.Same.{plain_weaker, flag_inside}
use Rattle.ldap_ber.proofs.fields.flag_field.Goals as goal

pub returns-in_err-flag-clause-fault : goal.returns-in_err-flag-clause-fault
returns-in_err-flag-clause-fault c =
    let p = err_from_is_err_and c.from_residual-in_err-flag.result c.from_residual-in_err-flag.ensures.1 in
    rw (p.1, p.2) (plain_weaker c.in_err-flag.field-0.0 _ _ (flag_inside c.args.octets.now c.in_ok-content.content.now
    c.in_ok-content.rest.now c.args.first c.in_ok-content.ensures.found) c.in_err-flag.ensures.fault)
