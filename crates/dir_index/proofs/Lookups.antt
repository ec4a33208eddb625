-- Look-ups of lists by key, after a change of the map.
use Rattle.std.proofs.Common.{◌≡◌, ℕ, Bool, true, false, cond, List, [], ◌∷◌, Option, Some, None, Ordering, map, refl, sym, ap, ap₂, ◌∙◌}
use Rattle.std.specs.Ordering.{is_eq, match_ordering, eq_by_cmp}
use Rattle.std.specs.Cmp.{IsTotalOrder, eq_by_cmp_equiv}
use Rattle.std.specs.Map.{lookup, remove_entry}
use Rattle.std.specs.BTreeMap.{is_at, insert_entry}
use Rattle.std.specs.Option.{unwrap_or}
use Rattle.index_choice.specs.dir_entry.shared_map.Entries.{IsAhead, Rises}
use Rattle.dir_index.specs.declared.list_key.ListKey.{ListKey}
use Rattle.dir_index.specs.ListKeys.{list_order, is_same_list}
use Rattle.dir_index.specs.OrderLaws.{list_total, list_ties}
use Rattle.dir_index.specs.Stored.{ListRows, list_at}
use Rattle.dir_index.proofs.Keys.{by_bool}

flat : (X : Type 0) (b : Bool) → let n : Option X = None in n ≡ cond b n n
flat X true = refl
flat X false = refl

module _ {K X : Type 0} {R : K → K → Ordering} (o : IsTotalOrder R) where
  swapped : (a b : Bool) (u v w : Option X) → (a ≡ true → b ≡ true → ⊥) → cond a u (cond b v w) ≡ cond b v (cond a u w)
  swapped true true u v w h = absurd (h refl refl)
  swapped true false u v w h = refl
  swapped false b u v w h = refl

  over : (a b : Bool) (u v w : Option X) → a ≡ b → cond a u w ≡ cond b u (cond a v w)
  over true true u v w h = refl
  over true false u v w h = cc
  over false true u v w h = cc
  over false false u v w h = refl

  put_found : (r : Ordering) (k : K) (v : X) (e : K × X) (es ds : List (K × X)) (q : K) → R k e.0 ≡ r →
      lookup (is_at (R q)) ds ≡ cond (eq_by_cmp R k q) (Some v) (lookup (is_at (R q)) es)
      → lookup (is_at (R q)) (match_ordering r ((k, v) ∷ e ∷ es) ((e.0, v) ∷ es) (e ∷ ds)) ≡ cond (eq_by_cmp R k q)
      (Some v) (lookup (is_at (R q)) (e ∷ es))
  put_found Ordering.Less k v e es ds q h g = ap (λ b. cond b (Some v) (lookup (is_at (R q)) (e ∷ es)))
      ((eq_by_cmp_equiv o).symm q k)
  put_found Ordering.Equal k v e es ds q h g =
      over (eq_by_cmp R q e.0) (eq_by_cmp R k q) (Some v) (Some e.1) (lookup (is_at (R q)) es)
      ((eq_by_cmp_equiv o).symm q e.0 ∙ sym ((eq_by_cmp_equiv o).congr k e.0 q (ap is_eq h)))
  put_found Ordering.Greater k v e es ds q h g =
      ap (λ l. cond (eq_by_cmp R q e.0) (Some e.1) l) g
      ∙ swapped (eq_by_cmp R q e.0) (eq_by_cmp R k q) (Some e.1) (Some v) (lookup (is_at (R q)) es) none
    where
      none : eq_by_cmp R q e.0 ≡ true → eq_by_cmp R k q ≡ true → ⊥
      none a b = let n : true ≡ false = sym a ∙ (eq_by_cmp_equiv o).congr q k e.0 ((eq_by_cmp_equiv o).symm q k ∙ b)
          ∙ ap is_eq h in cc

  pub found-insert : (es : List (K × X)) (k : K) (v : X) (q : K) → lookup (is_at (R q)) (insert_entry R es k v) ≡
      cond (eq_by_cmp R k q) (Some v) (lookup (is_at (R q)) es)
  found-insert [] k v q = ap (λ b. cond b (Some v) None) ((eq_by_cmp_equiv o).symm q k)
  found-insert (e ∷ es) k v q = put_found (R k e.0) k v e es (insert_entry R es k v) q refl (found-insert es k v q)

  -- a look-up below all keys
  none_ahead : (es : List (K × X)) (k q : K) → IsAhead R k es → eq_by_cmp R q k ≡ true → lookup (is_at (R q)) es ≡ None
  none_ahead [] k q a h = refl
  none_ahead (e ∷ es) k q a h =
      let n : eq_by_cmp R q e.0 ≡ false = (eq_by_cmp_equiv o).congr q k e.0 h ∙ ap is_eq a.0 in
      ap (λ b. cond b (Some e.1) (lookup (is_at (R q)) es)) n ∙ none_ahead es k q a.1 h

  taken : (t : Bool) (k : K) (e : K × X) (es ds : List (K × X)) (q : K) → eq_by_cmp R k e.0 ≡ t → IsAhead R e.0 es →
      lookup (is_at (R q)) ds ≡ cond (eq_by_cmp R k q) None (lookup (is_at (R q)) es)
      → lookup (is_at (R q)) (cond t es (e ∷ ds)) ≡ cond (eq_by_cmp R k q) None (lookup (is_at (R q)) (e ∷ es))
  taken true k e es ds q h a g =
      let both : eq_by_cmp R q e.0 ≡ eq_by_cmp R k q = (eq_by_cmp_equiv o).symm q e.0
      ∙ sym ((eq_by_cmp_equiv o).congr k e.0 q h) in
      by_bool (eq_by_cmp R k q)
      (λ y. none_ahead es e.0 q a (both ∙ y) ∙ ap (λ b. cond b None (lookup (is_at (R q)) (e ∷ es))) (sym y))
      (λ y. ap (λ b. cond b (Some e.1) (lookup (is_at (R q)) es)) (sym (both ∙ y))
      ∙ ap (λ b. cond b None (lookup (is_at (R q)) (e ∷ es))) (sym y))
  taken false k e es ds q h a g =
      ap (λ l. cond (eq_by_cmp R q e.0) (Some e.1) l) g
      ∙ swapped (eq_by_cmp R q e.0) (eq_by_cmp R k q) (Some e.1) None (lookup (is_at (R q)) es) (λ x y. let n : true ≡
      false = sym x ∙ (eq_by_cmp_equiv o).congr q k e.0 ((eq_by_cmp_equiv o).symm q k ∙ y) ∙ h in cc)

  pub found-remove : (es : List (K × X)) (k q : K) → Rises R es →
      lookup (is_at (R q)) (remove_entry (is_at (R k)) es) ≡ cond (eq_by_cmp R k q) None (lookup (is_at (R q)) es)
  found-remove [] k q s = flat X (eq_by_cmp R k q)
  found-remove (e ∷ es) k q s = taken (eq_by_cmp R k e.0) k e es (remove_entry (is_at (R k)) es) q refl s.0
      (found-remove es k q s.1)

or_list : (b : Bool) (v : List ℕ) (w : Option (List ℕ)) → unwrap_or (cond b (Some v) w) [] ≡ cond b v (unwrap_or w [])
or_list true v w = refl
or_list false v w = refl

or_none : (b : Bool) (w : Option (List ℕ)) → unwrap_or (cond b None w) [] ≡ cond b [] (unwrap_or w [])
or_none true w = refl
or_none false w = refl

-- the lists once one was written
pub list-insert : (ls : ListRows) (k : ListKey) (v : List ℕ) (q : ListKey) → list_at (insert_entry list_order ls k v)
    q ≡ cond (is_same_list k q) v (list_at ls q)
list-insert ls k v q =
    ap (λ w. unwrap_or w []) (found-insert list_total ls k v q) ∙ or_list (eq_by_cmp list_order k q) v
    (lookup (is_at (list_order q)) ls)
    ∙ ap (λ b. cond b v (list_at ls q)) (sym (list_ties k q))

-- and once one was taken away
pub list-remove : (ls : ListRows) (k : ListKey) (q : ListKey) → Rises list_order ls →
    list_at (remove_entry (is_at (list_order k)) ls) q ≡ cond (is_same_list k q) [] (list_at ls q)
list-remove ls k q s =
    ap (λ w. unwrap_or w []) (found-remove list_total ls k q s) ∙ or_none (eq_by_cmp list_order k q)
    (lookup (is_at (list_order q)) ls)
    ∙ ap (λ b. cond b [] (list_at ls q)) (sym (list_ties k q))

-- the lists that are found, by what is found
pub each_found : {X Y Z : Type 0} (f : X → Option Z) (g : Y → Option Z) (none : Z) (xs : List X) (ys : List Y) →
    map f xs ≡ map g ys → map (λ x. unwrap_or (f x) none) xs ≡ map (λ y. unwrap_or (g y) none) ys
each_found f g none [] [] h = refl
each_found f g none [] (y ∷ ys) h = absurd (cc)
each_found f g none (x ∷ xs) [] h = absurd (cc)
each_found f g none (x ∷ xs) (y ∷ ys) h =
    let head : f x ≡ g y = cc in
    let rest : map f xs ≡ map g ys = cc in
    ap₂ ◌∷◌ (ap (λ o. unwrap_or o none) head) (each_found f g none xs ys rest)
