-- What a refusal says.
use Rattle.std.specs.Prelude.{◌≡◌, ℕ, List}
use Rattle.ldap_filter.specs.Tree.{Tree}
use Rattle.filter_text.specs.Grammar.{IsFilterText}
use Rattle.filter_text.specs.declared.fault.FilterTextError.{FilterTextError}
use Rattle.filter_text.specs.declared.fault.FilterTextError.TheVariants.{BadFilterText, TooDeep, TooManyItems, NoMemory}

-- why a filter is not printed: no text spells it, or memory ran out
abbrev pub IsPrintFault : FilterTextError → Tree → Type 0
IsPrintFault (BadFilterText at) t = (at ≡ 0) × ((text : List ℕ) → IsFilterText t text → ⊥)
IsPrintFault TooDeep t = ⊥
IsPrintFault TooManyItems t = ⊥
IsPrintFault NoMemory t = Unit {0}
