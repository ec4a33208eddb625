-- Why no filter is read.
use Rattle.std.specs.Prelude.{ℕ, List, ◌<◌}
use Rattle.ldap_filter.specs.Tree.{Tree, depth, count}
use Rattle.filter_text.specs.Grammar.{IsFilterText}
use Rattle.filter_text.specs.declared.fault.FilterTextError.{FilterTextError}
use Rattle.filter_text.specs.declared.fault.FilterTextError.TheVariants.{BadFilterText, TooDeep, TooManyItems, NoMemory}
use Rattle.filter_text.specs.Longest.{IsLongestFront}

-- Why no filter is read of a text: it is no filter's, and its longest front that begins one has this length; or it is a
-- filter's that is too deep, or has too many items; or memory ran out.
abbrev pub IsReadFault : FilterTextError → List ℕ → Type 0
IsReadFault (BadFilterText at) text = ((t : Tree) → IsFilterText t text → ⊥) × IsLongestFront text at
IsReadFault TooDeep text = (t : Tree) × IsFilterText t text × (128 < depth t)
IsReadFault TooManyItems text = (t : Tree) × IsFilterText t text × (512 < count t)
IsReadFault NoMemory text = Unit {0}
