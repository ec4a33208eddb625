-- What the loops of `values_length` keep, and what grows less.
use Rattle.std.proofs.Common.{◌≡◌, length, min, take, map}
use Rattle.ldap_ber.specs.Element.{element_bytes}
use Rattle.ldap_ber.specs.Rows.{row_bytes}
use Rattle.ldap_ber.proofs.measuring_rows.values_length.Given as goal

abbrev pub invariant-loop-value : goal.invariant-loop-value
invariant-loop-value l = l.total ≡
    min (length (row_bytes (element_bytes 4) (map (λ v. v.items) (take l.value-index l.values)))) 4294967296
