use Rattle.std.proofs.Common.{◌≡◌, length, min, take}
use Rattle.ldap_msg.specs.ldap_ber.Element.{element_bytes}
use Rattle.ldap_msg.specs.ldap_ber.Rows.{row_bytes}
use Rattle.directory_api.proofs.shown_values.part_length.Given as goal

-- what those so far take
abbrev pub invariant-loop-value : goal.invariant-loop-value
invariant-loop-value l = l.total ≡ min (length (row_bytes (element_bytes 4) (take l.value-index l.values))) 4294967296
