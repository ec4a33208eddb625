-- What the loops of `put_changes` keep, and what grows less.
use Rattle.std.proofs.Common.{◌≡◌, ◌++◌, take, map}
use Rattle.ldap_ber.specs.Rows.{row_bytes}
use Rattle.ldap_parts.specs.UpdateView.{change_view}
use Rattle.ldap_parts.specs.UpdatesWritten.{change_bytes}
use Rattle.ldap_parts.proofs.encoding_modify.put_changes.Given as goal

abbrev pub invariant-loop-change : goal.invariant-loop-change
invariant-loop-change l = l.out.items ≡ l.initial.out.items ++ row_bytes change_bytes
    (map change_view (take l.change-index l.changes))
