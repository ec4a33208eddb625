use Rattle.std.proofs.Common.{◌≡◌, ◌++◌, take}
use Rattle.ldap_msg.specs.ldap_ber.Element.{element_bytes}
use Rattle.ldap_msg.specs.ldap_ber.Rows.{row_bytes}
use Rattle.directory_api.proofs.shown_values.put_part.Given as goal

-- those so far stand behind what was there
abbrev pub invariant-loop-value : goal.invariant-loop-value
invariant-loop-value l = l.out.items ≡ l.initial.out.items ++ row_bytes (element_bytes 4) (take l.value-index l.values)
