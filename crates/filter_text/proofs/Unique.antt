-- Filter texts, reading: a text is one filter's, and none begins another.
use Rattle.std.proofs.Common.{◌≡◌, ℕ, List, [], ◌∷◌, ◌++◌, refl, sym, ap, subst, ◌∙◌, arith}
use Rattle.ldap_filter.specs.Item.{Item}
use Rattle.ldap_filter.specs.Tree.{Tree, conj, disj, negation, item, Trees, no_trees, tree}
use Rattle.filter_text.specs.Items.{IsItemText}
use Rattle.filter_text.specs.Grammar.{HasFilter, HasFilters, IsFilterText}
use Rattle.filter_text.specs.private.Cuts.{is_other, front}
use Rattle.filter_text.proofs.Machines.{some_same}
use Rattle.filter_text.proofs.Cuts.{item_is}
use Rattle.filter_text.proofs.Rows.{head_same, tail_same, no_item, body_of, opened}

-- what two openings of one text share
openings : (a x y : List ℕ) (c d : ℕ) → a ≡ 40 ∷ c ∷ x → a ≡ 40 ∷ d ∷ y → (c ≡ d) × (x ≡ y)
openings a x y c d e f = let g = tail_same (sym e ∙ f) in (head_same g, tail_same g)

-- an item's text between parentheses
inner_parts : (a x y body rest : List ℕ) → a ≡ 40 ∷ x → a ≡ 40 ∷ y → y ≡ body ++ 41 ∷ rest → x ≡ body ++ 41 ∷ rest
inner_parts a x y body rest e f g = tail_same (sym e ∙ f) ∙ g

items_same : (i j : Item) (text r s b c : List ℕ) → text ≡ b ++ 41 ∷ r → text ≡ c ++ 41 ∷ s → IsItemText i b →
    IsItemText j c → (i ≡ j) × (r ≡ s)
items_same i j text r s b c e f p q =
    let k = body_of i text r b e p in
    let l = body_of j text s c f q in (
      some_same (sym (item_is i (front (is_other 41) text) k.is_body) ∙ item_is j (front (is_other 41) text)
          l.is_body),
      tail_same (sym k.next ∙ l.next),
    )

mutual
  pub filter_unique : (t u : Tree) (a r s : List ℕ) → HasFilter t a r → HasFilter u a s → (t ≡ u) × (r ≡ s)
  filter_unique (conj ts) (conj us) a r s p q =
      let o = openings a p.inner q.inner 38 38 p.parts q.parts in
      let f = rows_unique ts us p.inner q.inner r s o.1 p.is_inner q.is_inner in
      (ap conj f.0, f.1)
  filter_unique (disj ts) (disj us) a r s p q =
      let o = openings a p.inner q.inner 124 124 p.parts q.parts in
      let f = rows_unique ts us p.inner q.inner r s o.1 p.is_inner q.is_inner in
      (ap disj f.0, f.1)
  filter_unique (negation t) (negation u) a r s p q =
      let o = openings a p.inner q.inner 33 33 p.parts q.parts in
      let f = filter_unique t u p.inner (41 ∷ r) (41 ∷ s) p.is_inner (subst (λ (x : List ℕ). HasFilter u x (41 ∷ s))
      (sym o.1) q.is_inner) in
      (ap negation f.0, tail_same f.1)
  filter_unique (item i) (item j) a r s p q =
      let f = items_same i j p.inner r s p.is_inner.body q.is_inner.body p.is_inner.parts
      (inner_parts a p.inner q.inner q.is_inner.body s p.parts q.parts q.is_inner.parts) p.is_inner.is_body
      q.is_inner.is_body in
      (ap item f.0, f.1)
  filter_unique (conj ts) (disj us) a r s p q =
      absurd (omega (arith, (openings a p.inner q.inner 38 124 p.parts q.parts).0))
  filter_unique (conj ts) (negation u) a r s p q =
      absurd (omega (arith, (openings a p.inner q.inner 38 33 p.parts q.parts).0))
  filter_unique (disj ts) (conj us) a r s p q =
      absurd (omega (arith, (openings a p.inner q.inner 124 38 p.parts q.parts).0))
  filter_unique (disj ts) (negation u) a r s p q =
      absurd (omega (arith, (openings a p.inner q.inner 124 33 p.parts q.parts).0))
  filter_unique (negation t) (conj us) a r s p q =
      absurd (omega (arith, (openings a p.inner q.inner 33 38 p.parts q.parts).0))
  filter_unique (negation t) (disj us) a r s p q =
      absurd (omega (arith, (openings a p.inner q.inner 33 124 p.parts q.parts).0))
  filter_unique (conj ts) (item j) a r s p q = absurd (no_item j 38 q.is_inner.body p.inner s refl q.is_inner.is_body
      (inner_parts a (38 ∷ p.inner) q.inner q.is_inner.body s p.parts q.parts q.is_inner.parts))
  filter_unique (disj ts) (item j) a r s p q = absurd (no_item j 124 q.is_inner.body p.inner s refl q.is_inner.is_body
      (inner_parts a (124 ∷ p.inner) q.inner q.is_inner.body s p.parts q.parts q.is_inner.parts))
  filter_unique (negation t) (item j) a r s p q = absurd (no_item j 33 q.is_inner.body p.inner s refl
      q.is_inner.is_body (inner_parts a (33 ∷ p.inner) q.inner q.is_inner.body s p.parts q.parts q.is_inner.parts))
  filter_unique (item i) (conj us) a r s p q = absurd (no_item i 38 p.is_inner.body q.inner r refl p.is_inner.is_body
      (inner_parts a (38 ∷ q.inner) p.inner p.is_inner.body r q.parts p.parts p.is_inner.parts))
  filter_unique (item i) (disj us) a r s p q = absurd (no_item i 124 p.is_inner.body q.inner r refl p.is_inner.is_body
      (inner_parts a (124 ∷ q.inner) p.inner p.is_inner.body r q.parts p.parts p.is_inner.parts))
  filter_unique (item i) (negation u) a r s p q = absurd (no_item i 33 p.is_inner.body q.inner r refl
      p.is_inner.is_body (inner_parts a (33 ∷ q.inner) p.inner p.is_inner.body r q.parts p.parts p.is_inner.parts))

  rows_unique : (ts us : Trees) (a b r s : List ℕ) → a ≡ b → HasFilters ts a (41 ∷ r) → HasFilters us b (41 ∷ s) →
      (ts ≡ us) × (r ≡ s)
  rows_unique no_trees no_trees a b r s e p q = (refl, tail_same (sym p ∙ (e ∙ q)))
  rows_unique no_trees (tree u us) a b r s e p q = let o = opened u b q.between q.first in absurd
      (omega (arith, head_same (sym p ∙ (e ∙ o.1))))
  rows_unique (tree t ts) no_trees a b r s e p q = let o = opened t a p.between p.first in absurd
      (omega (arith, head_same (sym q ∙ (sym e ∙ o.1))))
  rows_unique (tree t ts) (tree u us) a b r s e p q =
      let f = filter_unique t u a p.between q.between p.first (subst (λ (x : List ℕ). HasFilter u x q.between) (sym e)
      q.first) in
      let g = rows_unique ts us p.between q.between r s f.1 p.next q.next in
      (ap (λ (v : Tree). tree v ts) f.0 ∙ ap (tree u) g.0, g.1)

pub text_unique : (t u : Tree) (text : List ℕ) → IsFilterText t text → IsFilterText u text → t ≡ u
text_unique t u text p q = (filter_unique t u text [] [] p q).0
