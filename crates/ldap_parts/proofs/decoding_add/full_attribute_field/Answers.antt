-- The goals of `full_attribute_field` that no tactic closes, each by one lemma over plain lists.
use Rattle.std.proofs.lemmas.Result.{err_from_is_err_and}
use Rattle.ldap_ber.proofs.Same.{plain_weaker}
use Rattle.ldap_ber.proofs.RowLemmas.{part_inside}
use Rattle.ldap_parts.specs.UpdateGrammar.{IsAttribute}
use Rattle.ldap_parts.proofs.decoding_add.full_attribute_field.Goals as goal

pub returns-in_err-attribute-clause-fault : goal.returns-in_err-attribute-clause-fault
returns-in_err-attribute-clause-fault c =
    let p = err_from_is_err_and c.from_residual-in_err-attribute.result c.from_residual-in_err-attribute.ensures.1 in
    rw (p.1, p.2) (plain_weaker c.in_err-attribute.field-0.0 _ _ (part_inside IsAttribute c.args.octets.now
    c.in_ok-content.content.now c.in_ok-content.rest.now 48 c.in_ok-content.ensures.found)
    c.in_err-attribute.ensures.fault)
