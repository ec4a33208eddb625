-- LDIF, writing: what the loop of `put_values` keeps.
use Rattle.std.proofs.Common.{◌≡◌, ◌++◌, drop, map, length}
use Rattle.ldif.specs.Written.{lines_text, value_line}
use Rattle.ldif.proofs.writing.put_values.Given as goal

abbrev pub invariant-loop-value : goal.invariant-loop-value
invariant-loop-value l =
    (l.out.items ++ lines_text (map value_line (drop l.value-index l.values)) ≡ l.fn.out.items ++ lines_text
    (map value_line l.values))
    × (l.out.items ≡ l.fn.out.items ++ drop (length l.fn.out.items) l.out.items)
