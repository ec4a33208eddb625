-- The octets that spell a filter (RFC 4511 4.5.1: Filter). A length may be spelled in several ways, so a filter has
-- several spellings.
use Rattle.std.specs.Prelude.{◌≡◌, ℕ, List, [], ◌++◌}
use Rattle.ldap_ber.specs.Element.{IsElement, element_bytes}
use Rattle.ldap_filter.specs.Tree.{Tree, conj, disj, negation, item, Trees, no_trees, tree}
use Rattle.ldap_filter.specs.ItemGrammar.{item_octet, IsItem, item_content, IsSpellable}

-- The first octet: the context tags 0 to 2 constructed, or an item's.
abbrev pub octet_of : Tree → ℕ
octet_of (conj ts) = 160
octet_of (disj ts) = 161
octet_of (negation t) = 162
octet_of (item i) = item_octet i

-- what an element spells, where its content spells it
pub record Spells (In : List ℕ → Type 0) (octet : ℕ) (octets : List ℕ) : Type 0 where
  pub content : List ℕ
  pub is_element : IsElement octets octet content
  pub inside : In content

-- one part after the other
pub record Joins (First Rest : List ℕ → Type 0) (octets : List ℕ) : Type 0 where
  pub first : List ℕ
  pub rest : List ℕ
  pub parts : octets ≡ first ++ rest
  pub is_first : First first
  pub is_rest : Rest rest

abbrev mutual
  -- the content of a filter's element
  pub IsBody : Tree → List ℕ → Type 0
  IsBody (conj ts) content = AreFilters ts content
  IsBody (disj ts) content = AreFilters ts content
  IsBody (negation t) content = Spells (IsBody t) (octet_of t) content
  IsBody (item i) content = IsItem i content

  -- filters, one after the other
  pub AreFilters : Trees → List ℕ → Type 0
  AreFilters no_trees content = content ≡ []
  AreFilters (tree t ts) content = Joins (Spells (IsBody t) (octet_of t)) (AreFilters ts) content

-- the octets spell the filter
abbrev pub IsFilter : Tree → List ℕ → Type 0
IsFilter t octets = Spells (IsBody t) (octet_of t) octets

-- a filter at the front of octets, and the octets after it
pub record HasFilter (t : Tree) (octets rest : List ℕ) : Type 0 where
  pub spelling : List ℕ
  pub is_filter : IsFilter t spelling
  pub parts : octets ≡ spelling ++ rest

abbrev mutual
  -- the content of the element that is written for a filter
  pub filter_content : Tree → List ℕ
  filter_content (conj ts) = filters_bytes ts
  filter_content (disj ts) = filters_bytes ts
  filter_content (negation t) = element_bytes (octet_of t) (filter_content t)
  filter_content (item i) = item_content i

  -- what is written for filters, one after the other
  pub filters_bytes : Trees → List ℕ
  filters_bytes no_trees = []
  filters_bytes (tree t ts) = element_bytes (octet_of t) (filter_content t) ++ filters_bytes ts

-- the one spelling that is written
abbrev pub filter_bytes : Tree → List ℕ
filter_bytes t = element_bytes (octet_of t) (filter_content t)

-- each description is text, and each substrings item has a part
abbrev mutual
  pub HasTexts : Tree → Type 0
  HasTexts (conj ts) = HaveTexts ts
  HasTexts (disj ts) = HaveTexts ts
  HasTexts (negation t) = HasTexts t
  HasTexts (item i) = IsSpellable i

  pub HaveTexts : Trees → Type 0
  HaveTexts no_trees = Unit {0}
  HaveTexts (tree t ts) = HasTexts t × HaveTexts ts
