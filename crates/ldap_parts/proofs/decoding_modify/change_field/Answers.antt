-- The goals of `change_field` that no tactic closes, each by one lemma over plain lists.
use Rattle.std.proofs.lemmas.Result.{err_from_is_err_and}
use Rattle.ldap_ber.proofs.Same.{plain_weaker}
use Rattle.ldap_ber.proofs.RowLemmas.{part_inside}
use Rattle.ldap_parts.specs.UpdateGrammar.{IsChange}
use Rattle.ldap_parts.proofs.decoding_modify.change_field.Goals as goal

pub returns-in_err-change-clause-fault : goal.returns-in_err-change-clause-fault
returns-in_err-change-clause-fault c =
    let p = err_from_is_err_and c.from_residual-in_err-change.result c.from_residual-in_err-change.ensures.1 in
    rw (p.1, p.2) (plain_weaker c.in_err-change.field-0.0 _ _ (part_inside IsChange c.args.octets.now
    c.in_ok-content.content.now c.in_ok-content.rest.now 48 c.in_ok-content.ensures.found)
    c.in_err-change.ensures.fault)
