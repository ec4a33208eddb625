use Rattle.std.proofs.Common.{◌≡◌, ◌+◌, ◌≤◌, length, min}
use Rattle.ldap_msg.specs.ldap_ber.Element.{element_bytes}
use Rattle.ldap_msg.specs.ldap_ber.Rows.{row_bytes}
use Rattle.directory_api.proofs.shown_values.values_length.Given as goal

-- what the parts so far take, up to the limit
abbrev pub invariant-loop-part : goal.invariant-loop-part
invariant-loop-part l = record {
  within : l.total ≤ 4294967296;
  whole : min (l.total + length (row_bytes (element_bytes 4) l.rest.values)) 4294967296 ≡
      min (length (row_bytes (element_bytes 4) l.attribute.values)) 4294967296;
}

abbrev pub decreases-loop-part : goal.decreases-loop-part
decreases-loop-part l = l.rest.count
