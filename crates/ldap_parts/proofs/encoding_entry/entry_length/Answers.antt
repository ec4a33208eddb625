-- The goals of `entry_length` that no tactic closes, each by one lemma over plain lists.
use Rattle.std.proofs.Common.{ℕ, List, length, min, map, ap}
use Rattle.ldap_ber.specs.Element.{element_bytes}
use Rattle.ldap_ber.specs.Rows.{row_bytes}
use Rattle.ldap_parts.specs.Written.{attribute_bytes}
use Rattle.ldap_ber.proofs.Measures.{two_measure, same_measure}
use Rattle.ldap_parts.proofs.encoding_entry.entry_length.Goals as goal

pub returns : goal.returns
returns g c =
    let object_name = c.args.object_name.now in
    let row = row_bytes attribute_bytes (map g.A.AttributeParts.attribute c.args.attributes.now) in
    two_measure (element_bytes 4 object_name) (element_bytes 48 row) c.element_length.result c.element_length-2.result
    4294967296 c.add_lengths.result
    (c.element_length.ensures 4 object_name (ap (λ (bs : List ℕ). min (length bs) 4294967296)
    c.as_bytes-object_name.ensures.value))
    (c.element_length-2.ensures 48 row (same_measure c.attributes_length-attributes.result row 4294967296
    c.attributes_length-attributes.ensures))
    c.add_lengths.ensures
