use Rattle.std.proofs.Common.{◌≡◌, drop}
use Rattle.text_faults.specs.Filters.{missing_digits}
use Rattle.text_faults.proofs.filters.missing_digits.Given as goal

abbrev pub invariant-loop-octet : goal.invariant-loop-octet
invariant-loop-octet l = missing_digits l.missing (drop l.octet-index l.value) ≡ missing_digits 0 l.value
