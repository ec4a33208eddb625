-- What the loops of `attributes_length` keep, and what grows less.
use Rattle.std.proofs.Common.{◌≡◌, length, min, take, map}
use Rattle.ldap_ber.specs.Rows.{row_bytes}
use Rattle.ldap_parts.specs.Written.{attribute_bytes}
use Rattle.ldap_parts.proofs.encoding_attribute.attributes_length.Given as goal

abbrev pub invariant-loop-attribute : goal.invariant-loop-attribute
invariant-loop-attribute g l = l.total ≡
    min (length (row_bytes attribute_bytes (map g.A.AttributeParts.attribute (take l.attribute-index l.attributes))))
    4294967296
