-- Filter texts, scanning: what the loop of `scan` keeps.
use Rattle.std.proofs.Common.{◌≡◌, drop}
use Rattle.filter_text.specs.private.Machine.{stops}
use Rattle.filter_text.specs.private.FilterScan.{filter_step, filter_ends}
use Rattle.filter_text.specs.private.Scanning.{spot, stop}
use Rattle.filter_text.proofs.scanning.scan.Given as goal

abbrev pub invariant-loop-octet : goal.invariant-loop-octet
invariant-loop-octet l = (l.at ≡ l.octet-index)
    × (stops filter_step filter_ends l.at (spot l.scanner) (drop l.octet-index l.text) ≡ stop l.text)
