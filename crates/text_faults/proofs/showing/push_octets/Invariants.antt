use Rattle.std.proofs.Common.{◌≡◌, ◌++◌, drop, flat_map, string_bytes}
use Rattle.text_faults.specs.Words.{raw_octet_shown}
use Rattle.text_faults.proofs.showing.push_octets.Given as goal

abbrev pub invariant-loop-octet : goal.invariant-loop-octet
invariant-loop-octet l =
    string_bytes l.sentence ++ flat_map raw_octet_shown (drop l.octet-index l.octets) ≡ string_bytes
    l.fn.sentence ++ flat_map raw_octet_shown l.octets
