-- Filter texts: what is printed of a filter spells it, and a filter that a text spells is printed.
use Rattle.std.proofs.Common.{◌≡◌, ℕ, List, [], ◌∷◌, ◌++◌, true, refl, sym, ap, subst, append_assoc}
use Rattle.ldap_filter.specs.Tree.{Tree, conj, disj, negation, item, Trees, no_trees, tree}
use Rattle.filter_text.specs.Items.{printed_item}
use Rattle.filter_text.specs.Grammar.{HasFilter, HasFilters, filter_inner, filter_texts, has_text, have_texts}
use Rattle.filter_text.proofs.Booleans.{left, right, both}
use Rattle.filter_text.proofs.Items.{item_spells, spelled_item}

mutual
  pub filter_spells : (t : Tree) (rest : List ℕ) → has_text t ≡ true → HasFilter t (40 ∷ filter_inner t ++ 41 ∷ rest)
      rest
  filter_spells (conj ts) rest h = record {
    inner = filter_texts ts ++ 41 ∷ rest;
    parts = refl;
    is_inner =
        filters_spell ts (41 ∷ rest) h;
  }
  filter_spells (disj ts) rest h = record {
    inner = filter_texts ts ++ 41 ∷ rest;
    parts = refl;
    is_inner =
        filters_spell ts (41 ∷ rest) h;
  }
  filter_spells (negation t) rest h = record {
    inner = 40 ∷ filter_inner t ++ 41 ∷ 41 ∷ rest;
    parts = ap (λ (x : List ℕ). 40 ∷ 33 ∷ 40 ∷ x) (append_assoc (filter_inner t) (41 ∷ []) (41 ∷ rest));
    is_inner = filter_spells t (41 ∷ rest) h;
  }
  filter_spells (item i) rest h = record {
    inner = printed_item i ++ 41 ∷ rest;
    parts = refl;
    is_inner =
        record { body = printed_item i; parts = refl; is_body = item_spells i h };
  }

  pub filters_spell : (ts : Trees) (rest : List ℕ) → have_texts ts ≡ true → HasFilters ts (filter_texts ts ++ rest) rest
  filters_spell no_trees rest h = refl
  filters_spell (tree t ts) rest h = record {
    between = filter_texts ts ++ rest;
    first = subst (λ (x : List ℕ). HasFilter t (40 ∷ x) (filter_texts ts ++ rest))
        (sym (append_assoc (filter_inner t) (41 ∷ filter_texts ts) rest)) (filter_spells t (filter_texts ts ++ rest)
        (left (has_text t) (have_texts ts) h));
    next = filters_spell ts rest (right (has_text t) (have_texts ts) h);
  }

mutual
  pub spelled_filter : (t : Tree) (text rest : List ℕ) → HasFilter t text rest → has_text t ≡ true
  spelled_filter (conj ts) text rest p = spelled_filters ts p.inner (41 ∷ rest) p.is_inner
  spelled_filter (disj ts) text rest p = spelled_filters ts p.inner (41 ∷ rest) p.is_inner
  spelled_filter (negation t) text rest p = spelled_filter t p.inner (41 ∷ rest) p.is_inner
  spelled_filter (item i) text rest p = spelled_item i p.is_inner.body p.is_inner.is_body

  pub spelled_filters : (ts : Trees) (text rest : List ℕ) → HasFilters ts text rest → have_texts ts ≡ true
  spelled_filters no_trees text rest p = refl
  spelled_filters (tree t ts) text rest p = both (has_text t) (have_texts ts) (spelled_filter t text p.between
      p.first) (spelled_filters ts p.between rest p.next)
