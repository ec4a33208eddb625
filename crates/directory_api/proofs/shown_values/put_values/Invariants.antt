use Rattle.std.proofs.Common.{◌≡◌, ◌++◌, drop, length}
use Rattle.ldap_msg.specs.ldap_ber.Element.{element_bytes}
use Rattle.ldap_msg.specs.ldap_ber.Rows.{row_bytes}
use Rattle.directory_api.proofs.shown_values.put_values.Given as goal

-- with the values that are left it is the whole, behind what was there
abbrev pub invariant-loop-part : goal.invariant-loop-part
invariant-loop-part l = record {
  written : l.out.items ++ row_bytes (element_bytes 4) l.rest.values ≡ l.initial.out.items ++ row_bytes
      (element_bytes 4) l.attribute.values;
  kept : l.out.items ≡ l.initial.out.items ++ drop (length l.initial.out.items) l.out.items;
}

abbrev pub decreases-loop-part : goal.decreases-loop-part
decreases-loop-part l = l.rest.count
