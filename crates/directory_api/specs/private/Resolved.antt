-- What selectors select that were looked up once for a whole search. Only this crate's own contracts speak of it: what
-- a search selects, `Selection` says.
use Rattle.std.specs.Prelude.{ℕ, List, [], ◌∷◌, Bool, true, false, ◌||◌, ◌≡◌, length}
use Rattle.std.specs.List.{list_any}
use Rattle.std.specs.Ordering.{nat_cmp}
use Rattle.std.specs.BTreeSet.{BTreeSet, contains}
use Rattle.dir_tree.specs.ldap_schema.Schema.{SchemaModel, superiors}
use Rattle.directory_api.specs.Selection.{is_selected}
use Rattle.directory_api.specs.declared.selection.Selection.{Selection}

-- a number is in a set
abbrev pub is_held : BTreeSet ℕ → ℕ → Bool
is_held types t = contains nat_cmp types t

-- a type, or one that its SUP leads to, is in a set
abbrev pub picks_named : SchemaModel → BTreeSet ℕ → ℕ → Bool
picks_named s types t = is_held types t || list_any (is_held types) (superiors (length s.types) s.types t)

-- every type is selected, or as above
abbrev pub picks : SchemaModel → Selection → ℕ → Bool
picks s selection t = selection.all || picks_named s selection.types t

-- what was looked up selects what the selectors do
abbrev pub Resolves : SchemaModel → List (List ℕ) → Selection → Type 0
Resolves s selectors selection = (t : ℕ) → picks s selection t ≡ is_selected s selectors t

-- there is no selector
abbrev pub is_none : {A : Type 0} → List A → Bool
is_none [] = true
is_none (x ∷ xs) = false
