-- A spelling belongs to one filter, and none begins another.
use Rattle.std.proofs.Common.{◌≡◌, ℕ, suc, ◌+◌, ◌<◌, ◌≤◌, List, [], ◌∷◌, ◌++◌, refl, sym, ap, subst, ◌∙◌, ◌⊎◌, inl, inr, append_assoc, arith}
use Rattle.std.proofs.lemmas.List.{append-nil, append_cancel_right}
use Rattle.ldap_ber.specs.Element.{IsElement}
use Rattle.ldap_ber.proofs.Same.{same_spelled, same_field, not_nothing}
use Rattle.ldap_filter.specs.Tree.{Tree, conj, disj, negation, item, Trees, no_trees, tree, depth, depths, count, counts}
use Rattle.ldap_filter.specs.Grammar.{octet_of, IsBody, AreFilters, IsFilter}
use Rattle.ldap_ber.specs.Fields.{HasField}
use Rattle.ldap_filter.specs.Limits.{Opens, here, under, along}
use Rattle.ldap_filter.proofs.Items.{item_unique, is_no_row}

same_whole : (octets c d : List ℕ) (f g : ℕ) → IsElement octets f c → IsElement octets g d → (f ≡ g) × (c ≡ d)
same_whole octets c d f g is₁ is₂ = let same = same_spelled octets octets [] [] c d f g is₁ is₂ refl
    in (same.first, same.content)

-- the field that a filter is
pub filter_field : (t : Tree) (octets s rest : List ℕ) (is : IsFilter t s) → octets ≡ s ++ rest →
    HasField octets (octet_of t) is.content rest
filter_field t octets s rest is e = record { spelling = s; is_element = is.is_element; parts = e }

not_empty : (t : Tree) (ts : Trees) (c : List ℕ) → AreFilters (tree t ts) c → c ≡ [] → ⊥
not_empty t ts c q e = not_nothing q.first q.rest q.is_first.content (octet_of t) q.is_first.is_element (sym q.parts
    ∙ e)

nothing : (a b : List ℕ) → a ++ b ≡ [] → a ≡ []
nothing [] b e = refl
nothing (x ∷ a) b e = absurd cc

mutual
  pub body_unique : (t u : Tree) (c : List ℕ) → octet_of t ≡ octet_of u → IsBody t c → IsBody u c → t ≡ u
  body_unique (conj ts) (conj us) c e p q = ap conj (row_unique ts us c p q)
  body_unique (disj ts) (disj us) c e p q = ap disj (row_unique ts us c p q)
  body_unique (negation t) (negation u) c e p q =
      let same = same_whole c p.content q.content (octet_of t) (octet_of u) p.is_element q.is_element in
      ap negation (body_unique t u q.content same.0 (subst (IsBody t) same.1 p.inside) q.inside)
  body_unique (item i) (item j) c e p q = ap item (item_unique i j c e p q)
  body_unique (conj ts) (disj us) c e p q = absurd (omega arith)
  body_unique (conj ts) (negation u) c e p q = absurd (omega arith)
  body_unique (conj ts) (item j) c e p q = absurd ((is_no_row j).conj (sym e))
  body_unique (disj ts) (conj us) c e p q = absurd (omega arith)
  body_unique (disj ts) (negation u) c e p q = absurd (omega arith)
  body_unique (disj ts) (item j) c e p q = absurd ((is_no_row j).disj (sym e))
  body_unique (negation t) (conj us) c e p q = absurd (omega arith)
  body_unique (negation t) (disj us) c e p q = absurd (omega arith)
  body_unique (negation t) (item j) c e p q = absurd ((is_no_row j).negation (sym e))
  body_unique (item i) (conj us) c e p q = absurd ((is_no_row i).conj e)
  body_unique (item i) (disj us) c e p q = absurd ((is_no_row i).disj e)
  body_unique (item i) (negation u) c e p q = absurd ((is_no_row i).negation e)

  pub row_unique : (ts us : Trees) (c : List ℕ) → AreFilters ts c → AreFilters us c → ts ≡ us
  row_unique no_trees no_trees c p q = refl
  row_unique no_trees (tree u us) c p q = absurd (not_empty u us c q p)
  row_unique (tree t ts) no_trees c p q = absurd (not_empty t ts c p q)
  row_unique (tree t ts) (tree u us) c p q =
      let same = same_spelled p.first q.first p.rest q.rest p.is_first.content q.is_first.content (octet_of t)
      (octet_of u) p.is_first.is_element q.is_first.is_element (sym p.parts ∙ q.parts) in
      let head : t ≡ u = body_unique t u q.is_first.content same.first (subst (IsBody t) same.content
      p.is_first.inside) q.is_first.inside in
      let tail : ts ≡ us = row_unique ts us q.rest (subst (AreFilters ts) same.rest p.is_rest) q.is_rest in
      cc

-- two filters at the front of the same octets are one
pub front_unique : (t u : Tree) (a b x y : List ℕ) → IsFilter t a → IsFilter u b → a ++ x ≡ b ++ y → (t ≡ u) × (x ≡ y)
front_unique t u a b x y p q e =
    let same = same_spelled a b x y p.content q.content (octet_of t) (octet_of u) p.is_element q.is_element e in
    (body_unique t u q.content same.first (subst (IsBody t) same.content p.inside) q.inside, same.rest)

-- ---- rows

-- what is left of a row behind the filters before
pub record Behind (before ts : Trees) (rest : List ℕ) : Type 0 where
  pub others : Trees
  pub are_filters : AreFilters others rest
  pub deep : depths others ≤ depths ts
  pub many : counts before + counts others ≡ counts ts

pub behind : (before ts : Trees) (done rest content : List ℕ) → AreFilters before done → AreFilters ts content →
    content ≡ done ++ rest → Behind before ts rest
behind no_trees ts done rest content p q e =
    let same : content ≡ rest = e ∙ ap (λ (s : List ℕ). s ++ rest) p in
    record { others = ts; are_filters = subst (AreFilters ts) same q; deep = omega arith; many = omega arith }
behind (tree t before) no_trees done rest content p q e =
    absurd (not_empty t before done p (nothing done rest (sym e ∙ q)))
behind (tree t before) (tree u ts) done rest content p q e =
    let e' : p.first ++ (p.rest ++ rest) ≡ q.first ++ q.rest = sym (append_assoc p.first p.rest rest)
    ∙ ap (λ (s : List ℕ). s ++ rest) (sym p.parts) ∙ sym e ∙ q.parts in
    let same = front_unique t u p.first q.first (p.rest ++ rest) q.rest p.is_first q.is_first e' in
    let b = behind before ts p.rest rest q.rest p.is_rest q.is_rest (sym same.1) in
    let one : count t ≡ count u = ap count same.0 in
    record {
      others = b.others;
      are_filters = b.are_filters;
      deep = omega (arith, b.deep);
      many =
          omega (arith, b.many, one);
    }

-- ---- what stands open is deep and counted

opens_some : {d k : ℕ} (octets : List ℕ) → Opens d k octets → octets ≡ [] → ⊥
opens_some octets (here first content rest f is) e = let z = sym f.parts ∙ e in not_nothing f.spelling rest content
    first f.is_element z
opens_some octets (under content rest f o) e = not_nothing f.spelling rest content 162 f.is_element (sym f.parts ∙ e)
opens_some octets (along first content rest done after before f is parts are items o) e = not_nothing f.spelling rest
    content first f.is_element (sym f.parts ∙ e)

positive : (t : Tree) → (0 < depth t) × (0 < count t)
positive (conj ts) = (omega arith, omega arith)
positive (disj ts) = (omega arith, omega arith)
positive (negation t) = (omega arith, omega arith)
positive (item i) = (omega arith, omega arith)

pub record IsNegation (t : Tree) (content : List ℕ) : Type 0 where
  pub inner : Tree
  pub is : t ≡ negation inner
  pub is_filter : IsFilter inner content

pub negation_of : (t : Tree) (content : List ℕ) → octet_of t ≡ 162 → IsBody t content → IsNegation t content
negation_of (negation t) content e h = record { inner = t; is = refl; is_filter = h }
negation_of (conj ts) content e h = absurd (omega arith)
negation_of (disj ts) content e h = absurd (omega arith)
negation_of (item i) content e h = absurd ((is_no_row i).negation e)

pub record IsRow (t : Tree) (content : List ℕ) : Type 0 where
  pub trees : Trees
  pub are_filters : AreFilters trees content
  pub deep : depth t ≡ suc (depths trees)
  pub many : count t ≡ suc (counts trees)

pub row_of : (t : Tree) (content : List ℕ) (first : ℕ) → octet_of t ≡ first → (first ≡ 160) ⊎ (first ≡ 161) →
    IsBody t content → IsRow t content
row_of (conj ts) content first e is h = record { trees = ts; are_filters = h; deep = refl; many = refl }
row_of (disj ts) content first e is h = record { trees = ts; are_filters = h; deep = refl; many = refl }
row_of (negation t) content first e is h = absurd (elim is [ inl p ↦ omega arith | inr p ↦ omega arith ])
row_of (item i) content first e is h =
    absurd (elim is [ inl p ↦ (is_no_row i).conj (e ∙ p) | inr p ↦ (is_no_row i).disj (e ∙ p) ])

in_row : {d k : ℕ} (us : Trees) (after : List ℕ) → AreFilters us after → (after ≡ [] → ⊥)
    → ((t : Tree) (s rest : List ℕ) → IsFilter t s → after ≡ s ++ rest → (d < depth t) × (k < count t)) →
    (d < depths us) × (k < counts us)
in_row no_trees after are some each = absurd (some are)
in_row (tree u us) after are some each = let one = each u are.first are.rest are.is_first are.parts
    in (omega (arith, one.0), omega (arith, one.1))

pub opens_within : {d k : ℕ} (octets : List ℕ) → Opens d k octets → (t : Tree) (s rest : List ℕ) → IsFilter t s →
    octets ≡ s ++ rest → (d < depth t) × (k < count t)
opens_within octets (here first content rest f is) t s r p e = positive t
opens_within octets (under content rest f o) t s r p e =
    let same = same_field octets p.content content r rest (octet_of t) 162 (filter_field t octets s r p e) f in
    let n = negation_of t content same.first (subst (IsBody t) same.content p.inside) in
    let inside = opens_within content o n.inner content [] n.is_filter (sym (append-nil content)) in
    (omega (arith, inside.0, ap depth n.is), omega (arith, inside.1, ap count n.is))
opens_within octets (along first content rest done after before f is parts are items o) t s r p e =
    let same = same_field octets p.content content r rest (octet_of t) first (filter_field t octets s r p e) f in
    let row = row_of t content first same.first is (subst (IsBody t) same.content p.inside) in
    let b = behind before row.trees done after content are row.are_filters parts in
    let inside = in_row b.others after b.are_filters (opens_some after o) (opens_within after o) in
    (omega (arith, inside.0, b.deep, row.deep), omega (arith, inside.1, b.many, row.many, items))

pub one : (t u : Tree) (a b x y : List ℕ) → IsFilter t a → IsFilter u b → a ++ x ≡ b ++ y → (a ≡ b) × (t ≡ u)
one t u a b x y p q e =
    let same = front_unique t u a b x y p q e in
    (append_cancel_right a b y (ap (λ (r : List ℕ). a ++ r) (sym same.1) ∙ e), same.0)
