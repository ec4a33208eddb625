use Rattle.std.proofs.Common.{◌≡◌, ◌++◌, drop, flat_map, string_bytes}
use Rattle.text_faults.specs.Words.{octet_digits}
use Rattle.text_faults.proofs.showing.push_all_digits.Given as goal

abbrev pub invariant-loop-octet : goal.invariant-loop-octet
invariant-loop-octet l =
    string_bytes l.sentence ++ flat_map octet_digits (drop l.octet-index l.octets) ≡ string_bytes
    l.fn.sentence ++ flat_map octet_digits l.octets
