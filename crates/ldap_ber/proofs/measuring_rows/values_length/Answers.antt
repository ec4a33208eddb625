-- The goals of `values_length` that no tactic closes, each by one lemma over plain lists.
use Rattle.std.proofs.Common.{ℕ, List, length, min, ap}
use Rattle.ldap_ber.specs.Element.{element_bytes}
use Rattle.ldap_ber.proofs.RowsWritten.{row_measure}
use Rattle.ldap_ber.proofs.measuring_rows.values_length.Goals as goal

pub loop-value-preserved : goal.loop-value-preserved
loop-value-preserved c =
    row_measure (element_bytes 4) (λ v. v.items) c.args.values.now c.loop-value.value-index c.value-item.result
    4294967296 c.loop-value.total c.element_length.result c.add_lengths-total.result c.loop-value-test.true
    c.value-item.is c.loop-value.invariant
    (c.element_length.ensures 4 c.value-item.result.items (ap (λ (bs : List ℕ). min (length bs) 4294967296)
    c.as_slice.ensures.value)) c.add_lengths-total.ensures
