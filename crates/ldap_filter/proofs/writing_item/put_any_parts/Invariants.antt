-- What the loops of `put_any_parts` keep, and what grows less.
use Rattle.std.proofs.Common.{◌≡◌, ◌++◌, take, map}
use Rattle.ldap_ber.specs.Element.{element_bytes}
use Rattle.ldap_ber.specs.Rows.{row_bytes}
use Rattle.ldap_filter.proofs.writing_item.put_any_parts.Given as goal

abbrev pub invariant-loop-part : goal.invariant-loop-part
invariant-loop-part l = l.out.items ≡ l.initial.out.items ++ row_bytes (element_bytes 129)
    (map (λ v. v.items) (take l.part-index l.parts))
