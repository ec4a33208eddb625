-- What reading finds at the front of a text within the limits, and what each fault means there.
use Rattle.std.specs.Prelude.{◌≡◌, ℕ, ◌+◌, ◌≤◌, ◌<◌, List, ◌∷◌, Option, Some}
use Rattle.std.specs.Option.{option_map}
use Rattle.ldap_filter.specs.Item.{Item}
use Rattle.ldap_filter.specs.Tree.{Tree, item, Trees, depth, depths, count, counts}
use Rattle.ldap_filter.specs.View.{view}
use Rattle.ldap_filter.specs.declared.tree.Filter.{Filter}
use Rattle.filter_text.specs.Grammar.{HasFilter, HasFilters}
use Rattle.filter_text.specs.declared.fault.FilterTextError.{FilterTextError}
use Rattle.filter_text.specs.declared.fault.FilterTextError.TheVariants.{BadFilterText, TooDeep, TooManyItems, NoMemory}

-- a refusal of a part: it is not there, or memory ran out
abbrev pub PartFault : FilterTextError → Type 0 → Type 0
PartFault (BadFilterText at) P = P
PartFault TooDeep P = ⊥
PartFault TooManyItems P = ⊥
PartFault NoMemory P = Unit {0}

-- an item in memory is the one that was found
abbrev pub IsItemRead : Option Item → Filter → Type 0
IsItemRead found f = option_map item found ≡ Some (view f)

-- the filter that stands at the front is the one that was read, within the limits; left is what is left of the items
pub record ReadAs (limit items : ℕ) (t : Tree) (rest : List ℕ) (u : Tree) (left : ℕ) (after : List ℕ) : Type 0 where
  pub same : u ≡ t
  pub behind : after ≡ rest
  pub deep : depth t ≤ limit
  pub many : count t + left ≡ items

-- whatever filter stands at the front
abbrev pub IsFrontRead : ℕ → ℕ → List ℕ → Tree → ℕ → List ℕ → Type 0
IsFrontRead limit items text u left after =
    (t : Tree) (rest : List ℕ) → HasFilter t text rest → ReadAs limit items t rest u left after

-- the filters up to a `)` are those that were read, within the limits
pub record RowAs (limit items : ℕ) (ts : Trees) (rest : List ℕ) (us : Trees) (left : ℕ) (after : List ℕ) : Type 0 where
  pub same : us ≡ ts
  pub behind : after ≡ rest
  pub deep : depths ts ≤ limit
  pub many : counts ts + left ≡ items

-- whatever filters stand there up to a `)`
abbrev pub IsRowRead : ℕ → ℕ → List ℕ → Trees → ℕ → List ℕ → Type 0
IsRowRead limit items text us left after =
    (ts : Trees) (rest : List ℕ) → HasFilters ts text (41 ∷ rest) → RowAs limit items ts rest us left after

-- what a fault says of the filter at the front: none is there, or it is too deep or has too many items
abbrev pub IsFrontFault : FilterTextError → ℕ → ℕ → List ℕ → Type 0
IsFrontFault (BadFilterText at) limit items text = (t : Tree) (rest : List ℕ) → HasFilter t text rest → ⊥
IsFrontFault TooDeep limit items text = (t : Tree) (rest : List ℕ) → HasFilter t text rest → limit < depth t
IsFrontFault TooManyItems limit items text = (t : Tree) (rest : List ℕ) → HasFilter t text rest → items < count t
IsFrontFault NoMemory limit items text = Unit {0}

-- the same of filters up to a `)`
abbrev pub IsRowFault : FilterTextError → ℕ → ℕ → List ℕ → Type 0
IsRowFault (BadFilterText at) limit items text = (ts : Trees) (rest : List ℕ) → HasFilters ts text (41 ∷ rest) → ⊥
IsRowFault TooDeep limit items text = (ts : Trees) (rest : List ℕ) → HasFilters ts text (41 ∷ rest) → limit < depths ts
IsRowFault TooManyItems limit items text =
    (ts : Trees) (rest : List ℕ) → HasFilters ts text (41 ∷ rest) → items < counts ts
IsRowFault NoMemory limit items text = Unit {0}
