-- The goals of `values_field` that no tactic closes, each by one lemma over plain lists.
use Rattle.std.proofs.lemmas.Result.{err_from_is_err_and}
use Rattle.ldap_ber.specs.Rows.{AreValues}
use Rattle.ldap_ber.proofs.Same.{plain_weaker}
use Rattle.ldap_ber.proofs.RowLemmas.{part_inside}
use Rattle.ldap_ber.proofs.rows.values_field.Goals as goal

pub returns-in_err-values-clause-fault : goal.returns-in_err-values-clause-fault
returns-in_err-values-clause-fault c =
    let p = err_from_is_err_and c.from_residual-in_err-values.result c.from_residual-in_err-values.ensures.1 in
    rw (p.1, p.2) (plain_weaker c.in_err-values.field-0.0 _ _ (part_inside AreValues c.args.octets.now
    c.in_ok-content.content.now c.in_ok-content.rest.now c.args.first c.in_ok-content.ensures.found)
    c.in_err-values.ensures.fault)
