-- The goals of `controls_or_none` that no tactic closes, each by one lemma over plain lists.
use Rattle.std.proofs.lemmas.Result.{err_from_is_err_and}
use Rattle.ldap_ber.proofs.Same.{plain_weaker}
use Rattle.ldap_parts.proofs.Exits.{controls_inside, controls_there}
use Rattle.ldap_parts.proofs.decoding_control.controls_or_none.Goals as goal

pub returns-in_err-content-clause-fault : goal.returns-in_err-content-clause-fault
returns-in_err-content-clause-fault c =
    let p = err_from_is_err_and c.from_residual.result c.from_residual.ensures.1 in
    rw (p.1, p.2) (plain_weaker c.in_err-content.field-0.0 _ _ (controls_there c.args.octets.now
    c.if-not-has_first.ensures.yes) c.in_err-content.ensures.fault)

pub returns-in_err-controls-clause-fault : goal.returns-in_err-controls-clause-fault
returns-in_err-controls-clause-fault c =
    let p = err_from_is_err_and c.from_residual-in_err-controls.result c.from_residual-in_err-controls.ensures.1 in
    rw (p.1, p.2) (plain_weaker c.in_err-controls.field-0.0 _ _ (controls_inside c.args.octets.now
    c.in_ok-content.content.now c.in_ok-content.rest.now c.if-not-has_first.ensures.yes
    c.in_ok-content.ensures.found) c.in_err-controls.ensures.fault)
