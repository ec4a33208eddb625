-- Which indexes a type has.
use Rattle.std.specs.Prelude.{ℕ, List, Option, None, Some, false, slice_get}
use Rattle.index_choice.specs.declared.kinds.Kinds.{Kinds}

-- no index at all
abbrev pub no_kinds : Kinds
no_kinds = record { presence = false; equality = false; ordering = false; substrings = false }

-- these kinds, or none where a type has no place in the choice
abbrev pub kinds_or_none : Option Kinds → Kinds
kinds_or_none None = no_kinds
kinds_or_none (Some k) = k

-- the indexes of a type; a type that the choice doesn't reach has none
abbrev pub kinds_of : List Kinds → ℕ → Kinds
kinds_of ix t = kinds_or_none (slice_get ix t)
