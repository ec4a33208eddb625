-- The goals of `put_attributes` that no tactic closes, each by one lemma over plain lists.
use Rattle.std.proofs.Common.{map, take}
use Rattle.std.proofs.lemmas.Result.{err_from_is_err_and}
use Rattle.ldap_ber.proofs.RowsWritten.{row_step, row_long}
use Rattle.ldap_ber.proofs.Puts.{kept_front, kept_more}
use Rattle.ldap_ber.specs.Rows.{row_bytes}
use Rattle.ldap_parts.specs.Written.{attribute_bytes}
use Rattle.ldap_parts.proofs.encoding_attribute.put_attributes.Goals as goal

pub returns-in_err-put_attribute-clause-too_long : goal.returns-in_err-put_attribute-clause-too_long
returns-in_err-put_attribute-clause-too_long g c =
    let p = err_from_is_err_and c.from_residual.result c.from_residual.ensures.1 in
    rw (p.1, p.2) (λ h. row_long attribute_bytes g.A.AttributeParts.attribute c.args.attributes.now
    c.loop-attribute.attribute-index c.attribute-item.result 4294967296 c.loop-attribute-test.true
    c.attribute-item.is (c.in_err-put_attribute.ensures.too_long h))

pub loop-attribute-preserved : goal.loop-attribute-preserved
loop-attribute-preserved g c =
    row_step attribute_bytes g.A.AttributeParts.attribute c.args.out.now.items c.loop-attribute.out.items
    c.put_attribute.new.out.items c.args.attributes.now c.loop-attribute.attribute-index c.attribute-item.result
    c.loop-attribute-test.true c.attribute-item.is c.loop-attribute.invariant
    c.in_ok-put_attribute.ensures.ok

pub returns-in_err-put_attribute-clause-kept : goal.returns-in_err-put_attribute-clause-kept
returns-in_err-put_attribute-clause-kept g c =
    kept_more _ c.loop-attribute.out.items _ (row_bytes attribute_bytes (map g.A.AttributeParts.attribute
    (take c.loop-attribute.attribute-index c.args.attributes.now))) c.loop-attribute.invariant
    c.in_err-put_attribute.ensures.kept

pub returns-clause-kept : goal.returns-clause-kept
returns-clause-kept g c = kept_front _ _ _ c.loop-attribute.invariant
