-- The goals of `full_attribute_of` that no tactic closes, each by one lemma over plain lists.
use Rattle.std.proofs.lemmas.Result.{err_from_is_err_and}
use Rattle.ldap_ber.proofs.Same.{plain_weaker}
use Rattle.ldap_parts.specs.View.{attribute_view}
use Rattle.ldap_parts.proofs.UpdateExits.{full_partial, full_empty, none_mapped}
use Rattle.ldap_parts.proofs.decoding_add.full_attribute_of.Goals as goal

pub returns-in_err-attribute-clause-fault : goal.returns-in_err-attribute-clause-fault
returns-in_err-attribute-clause-fault c =
    let p = err_from_is_err_and c.from_residual.result c.from_residual.ensures.1 in
    rw (p.1, p.2) (plain_weaker c.in_err-attribute.field-0.0 _ _ (full_partial c.args.content.now)
    c.in_err-attribute.ensures.fault)

pub returns-then-is_empty-clause-fault : goal.returns-then-is_empty-clause-fault
returns-then-is_empty-clause-fault c =
    full_empty c.args.content.now (attribute_view c.in_ok-attribute.attribute) c.in_ok-attribute.ensures.found
    (none_mapped (λ v. v.items) c.is_empty.result c.as_slice.result.now c.in_ok-attribute.attribute.values.items
    c.is_empty.ensures c.if-is_empty.true c.as_slice.ensures.value)
