-- The goals of `attributes_length` that no tactic closes, each by one lemma over plain lists.
use Rattle.ldap_ber.proofs.RowsWritten.{row_measure}
use Rattle.ldap_ber.proofs.Measures.{same_measure}
use Rattle.ldap_parts.specs.Written.{attribute_content, attribute_bytes}
use Rattle.ldap_parts.proofs.encoding_attribute.attributes_length.Goals as goal

pub loop-attribute-preserved : goal.loop-attribute-preserved
loop-attribute-preserved g c =
    let content = attribute_content (g.A.AttributeParts.attribute c.attribute-item.result) in
    row_measure attribute_bytes g.A.AttributeParts.attribute c.args.attributes.now c.loop-attribute.attribute-index
    c.attribute-item.result 4294967296 c.loop-attribute.total c.element_length.result c.add_lengths-total.result
    c.loop-attribute-test.true c.attribute-item.is c.loop-attribute.invariant
    (c.element_length.ensures 48 content (same_measure c.content_length.result content 4294967296
    c.content_length.ensures)) c.add_lengths-total.ensures
