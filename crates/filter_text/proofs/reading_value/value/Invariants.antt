-- Filter texts, reading: what the loop of `value` keeps.
use Rattle.std.proofs.Common.{◌≡◌, drop}
use Rattle.filter_text.specs.private.Scanned.{scanned, value_of}
use Rattle.filter_text.proofs.reading_value.value.Given as goal

abbrev pub invariant-loop-octet : goal.invariant-loop-octet
invariant-loop-octet l = scanned l.value.items l.reading (drop l.octet-index l.text) ≡ value_of l.text
