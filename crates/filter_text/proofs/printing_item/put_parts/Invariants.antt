-- Filter texts, items printed: what the loop of `put_parts` keeps.
use Rattle.std.proofs.Common.{◌≡◌, ◌++◌, drop, map, string_bytes, length}
use Rattle.filter_text.specs.Items.{printed_parts}
use Rattle.filter_text.proofs.printing_item.put_parts.Given as goal

abbrev pub invariant-loop-part : goal.invariant-loop-part
invariant-loop-part l =
    (string_bytes l.out ++ printed_parts (map (λ v. v.items) (drop l.part-index l.parts)) ≡ string_bytes
    l.fn.out ++ printed_parts (map (λ v. v.items) l.parts))
    × (string_bytes l.out ≡ string_bytes l.fn.out ++ drop (length (string_bytes l.fn.out)) (string_bytes l.out))
