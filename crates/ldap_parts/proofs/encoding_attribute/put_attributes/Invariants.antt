-- What the loops of `put_attributes` keep, and what grows less.
use Rattle.std.proofs.Common.{◌≡◌, ◌++◌, take, map}
use Rattle.ldap_ber.specs.Rows.{row_bytes}
use Rattle.ldap_parts.specs.Written.{attribute_bytes}
use Rattle.ldap_parts.proofs.encoding_attribute.put_attributes.Given as goal

abbrev pub invariant-loop-attribute : goal.invariant-loop-attribute
invariant-loop-attribute g l = l.out.items ≡ l.initial.out.items ++ row_bytes attribute_bytes
    (map g.A.AttributeParts.attribute (take l.attribute-index l.attributes))
