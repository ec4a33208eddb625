-- The goals of `content_length` that no tactic closes, each by one lemma over plain lists.
use Rattle.std.proofs.Common.{ℕ, List, length, min, ap, ◌∙◌}
use Rattle.ldap_ber.specs.Element.{element_bytes}
use Rattle.ldap_ber.specs.Rows.{row_bytes}
use Rattle.ldap_ber.proofs.Measures.{two_measure, same_measure}
use Rattle.ldap_parts.proofs.encoding_attribute.content_length.Goals as goal

pub returns : goal.returns
returns g c =
    let a = g.A.AttributeParts.attribute c.args.attribute.now in
    let row = row_bytes (element_bytes 4) a.values in
    two_measure (element_bytes 4 a.description) (element_bytes 49 row) c.element_length.result
    c.element_length-2.result 4294967296 c.add_lengths.result
    (c.element_length.ensures 4 a.description (ap (λ (bs : List ℕ). min (length bs) 4294967296)
    (c.as_bytes-description.ensures.value ∙ c.description.ensures)))
    (c.element_length-2.ensures 49 row (same_measure c.values_length-values.result row 4294967296
    c.values_length-values.ensures))
    c.add_lengths.ensures
