-- What the loops of `put_values` keep, and what grows less.
use Rattle.std.proofs.Common.{◌≡◌, ◌++◌, take, map}
use Rattle.ldap_ber.specs.Element.{element_bytes}
use Rattle.ldap_ber.specs.Rows.{row_bytes}
use Rattle.ldap_ber.proofs.writing_rows.put_values.Given as goal

abbrev pub invariant-loop-value : goal.invariant-loop-value
invariant-loop-value l = l.out.items ≡ l.initial.out.items ++ row_bytes (element_bytes 4)
    (map (λ v. v.items) (take l.value-index l.values))
