-- Filter texts, reading: what the loop of `text` keeps.
use Rattle.std.proofs.Common.{◌≡◌, ◌++◌, drop, string_bytes}
use Rattle.filter_text.proofs.reading_value.text.Given as goal

abbrev pub invariant-loop-octet : goal.invariant-loop-octet
invariant-loop-octet l = string_bytes l.out ++ drop l.octet-index l.octets ≡ l.octets
