-- The grammar (RFC 4515 3; RFC 4526 for `(&)` and `(|)`).
use Rattle.std.specs.Prelude.{◌≡◌, ℕ, List, [], ◌∷◌, ◌++◌, Bool, true, ◌&&◌}
use Rattle.ldap_filter.specs.Tree.{Tree, conj, disj, negation, item, Trees, no_trees, tree}
use Rattle.filter_text.specs.Items.{IsItemText, printed_item, has_item_text}

-- a text behind these octets
pub record Behind (front : List ℕ) (In : List ℕ → Type 0) (text : List ℕ) : Type 0 where
  pub inner : List ℕ
  pub parts : text ≡ front ++ inner
  pub is_inner : In inner

-- a text, and a text behind it
pub record Joined (First : List ℕ → Type 0) (Next : List ℕ → Type 0) : Type 0 where
  pub between : List ℕ
  pub first : First between
  pub next : Next between

-- an item's text, `)`, and what follows
pub record Closes (In : List ℕ → Type 0) (rest text : List ℕ) : Type 0 where
  pub body : List ℕ
  pub parts : text ≡ body ++ 41 ∷ rest
  pub is_body : In body

abbrev mutual
  -- A filter's text at the front of a text, and what follows it (RFC 4515 3, filter).
  pub HasFilter : Tree → List ℕ → List ℕ → Type 0
  HasFilter (conj ts) text rest = Behind (40 ∷ 38 ∷ []) (λ inner. HasFilters ts inner (41 ∷ rest)) text
  HasFilter (disj ts) text rest = Behind (40 ∷ 124 ∷ []) (λ inner. HasFilters ts inner (41 ∷ rest)) text
  HasFilter (negation t) text rest = Behind (40 ∷ 33 ∷ []) (λ inner. HasFilter t inner (41 ∷ rest)) text
  HasFilter (item i) text rest = Behind (40 ∷ []) (Closes (IsItemText i) rest) text

  -- filters' texts, one after the other, as many as there are (RFC 4515 3, filterlist; RFC 4526 2)
  pub HasFilters : Trees → List ℕ → List ℕ → Type 0
  HasFilters no_trees text rest = text ≡ rest
  HasFilters (tree t ts) text rest = Joined (λ between. HasFilter t text between) (λ between. HasFilters ts between
      rest)

-- A text spells a filter.
abbrev pub IsFilterText : Tree → List ℕ → Type 0
IsFilterText t text = HasFilter t text []

-- ---- what is printed

abbrev mutual
  -- the text that is printed between a filter's parentheses
  pub filter_inner : Tree → List ℕ
  filter_inner (conj ts) = 38 ∷ filter_texts ts
  filter_inner (disj ts) = 124 ∷ filter_texts ts
  filter_inner (negation t) = 33 ∷ 40 ∷ filter_inner t ++ 41 ∷ []
  filter_inner (item i) = printed_item i

  -- filters printed, one after the other
  pub filter_texts : Trees → List ℕ
  filter_texts no_trees = []
  filter_texts (tree t ts) = 40 ∷ filter_inner t ++ 41 ∷ filter_texts ts

-- The one text that is printed of a filter.
abbrev pub filter_text : Tree → List ℕ
filter_text t = 40 ∷ filter_inner t ++ 41 ∷ []

-- ---- which filters have a text

abbrev mutual
  -- Whether some text spells a filter.
  pub has_text : Tree → Bool
  has_text (conj ts) = have_texts ts
  has_text (disj ts) = have_texts ts
  has_text (negation t) = has_text t
  has_text (item i) = has_item_text i

  pub have_texts : Trees → Bool
  have_texts no_trees = true
  have_texts (tree t ts) = has_text t && have_texts ts
