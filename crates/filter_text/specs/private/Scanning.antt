-- What a scanner stands for, and what its refusals say.
use Rattle.std.specs.Prelude.{◌≡◌, ℕ, List, [], reverse, Option, Some}
use Rattle.filter_text.specs.declared.fault.FilterTextError.{FilterTextError}
use Rattle.filter_text.specs.declared.fault.FilterTextError.TheVariants.{BadFilterText, TooDeep, TooManyItems, NoMemory}
use Rattle.filter_text.specs.private.Machine.{stops}
use Rattle.filter_text.specs.private.FilterScan.{Spot, at, filter_step, filter_ends}
use Rattle.filter_text.specs.declared.place.ScanState.TheVariants.{Opening}
use Rattle.filter_text.specs.declared.scanner.Scanner.{Scanner}

-- the place that a scanner stands for
abbrev pub spot : Scanner → Spot
spot s = at s.place (reverse s.around.items)

-- how many octets the scanner takes of a text that it does not pass
abbrev pub stop : List ℕ → Option ℕ
stop text = stops filter_step filter_ends 0 (at Opening []) text

-- what a refusal of the scanner says
abbrev pub IsScanFault : FilterTextError → List ℕ → Type 0
IsScanFault (BadFilterText n) text = stop text ≡ Some n
IsScanFault TooDeep text = ⊥
IsScanFault TooManyItems text = ⊥
IsScanFault NoMemory text = Unit {0}
