-- The goals of `text_field` that no tactic closes, each by one lemma over plain lists.
use Rattle.std.proofs.lemmas.Result.{err_from_is_err_and}
use Rattle.ldap_ber.proofs.Same.{plain_weaker, text_inside}
use Rattle.ldap_ber.proofs.fields.text_field.Goals as goal

pub returns-in_err-text-clause-fault : goal.returns-in_err-text-clause-fault
returns-in_err-text-clause-fault c =
    let p = err_from_is_err_and c.from_residual-in_err-text.result c.from_residual-in_err-text.ensures.1 in
    rw (p.1, p.2) (plain_weaker c.in_err-text.field-0.0 _ _ (text_inside c.args.octets.now c.in_ok-content.content.now
    c.in_ok-content.rest.now c.args.first c.in_ok-content.ensures.found) c.in_err-text.ensures.fault)
