-- Filter texts, values printed: what the loop of `put_value` keeps.
use Rattle.std.proofs.Common.{◌≡◌, ◌++◌, length, string_bytes, drop}
use Rattle.filter_text.specs.Values.{printed_from}
use Rattle.filter_text.proofs.printing_value.put_value.Given as goal

abbrev pub invariant-loop-rest : goal.invariant-loop-rest
invariant-loop-rest l =
    (string_bytes l.out ++ printed_from 0 l.rest ≡ string_bytes l.fn.out ++ printed_from 0 l.value)
    × (string_bytes l.out ≡ string_bytes l.fn.out ++ drop (length (string_bytes l.fn.out)) (string_bytes l.out))

abbrev pub decreases-loop-rest : goal.decreases-loop-rest
decreases-loop-rest l = length l.rest
