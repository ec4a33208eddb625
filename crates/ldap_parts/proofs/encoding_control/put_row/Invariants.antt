-- What the loops of `put_row` keep, and what grows less.
use Rattle.std.proofs.Common.{◌≡◌, ◌++◌, take, map}
use Rattle.ldap_ber.specs.Rows.{row_bytes}
use Rattle.ldap_parts.specs.View.{control_view}
use Rattle.ldap_parts.specs.Written.{control_bytes}
use Rattle.ldap_parts.proofs.encoding_control.put_row.Given as goal

abbrev pub invariant-loop-control : goal.invariant-loop-control
invariant-loop-control l = l.out.items ≡ l.initial.out.items ++ row_bytes control_bytes
    (map control_view (take l.control-index l.controls))
