-- LDIF, writing: what the loop of `put_records` keeps.
use Rattle.std.proofs.Common.{◌≡◌, ◌++◌, drop, length}
use Rattle.ldif.specs.Written.{lines_text, records_lines}
use Rattle.ldif.proofs.writing.put_records.Given as goal

abbrev pub invariant-loop-item : goal.invariant-loop-item
invariant-loop-item l =
    (l.out.items ++ lines_text (records_lines (drop l.item-index l.records)) ≡ l.fn.out.items ++ lines_text
    (records_lines l.records))
    × (l.out.items ≡ l.fn.out.items ++ drop (length l.fn.out.items) l.out.items)
