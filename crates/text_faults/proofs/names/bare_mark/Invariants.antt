use Rattle.std.proofs.Common.{◌≡◌, drop}
use Rattle.text_faults.specs.Names.{bare_from, bare_mark}
use Rattle.text_faults.proofs.names.bare_mark.Given as goal

abbrev pub invariant-loop-octet : goal.invariant-loop-octet
invariant-loop-octet l = bare_from l.is_escaped (drop l.octet-index l.value) ≡ bare_mark l.value
