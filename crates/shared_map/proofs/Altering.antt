-- What becomes of the value at a key, in a list and in its parts.
use Rattle.std.proofs.Common.{◌≡◌, ℕ, ◌<◌, List, ◌++◌, ◌∷◌, length, sym, subst, ap, ◌∙◌, false, take, drop, suc, get_or, set}
use Rattle.std.specs.Prelude.{Option, Some, None}
use Rattle.std.specs.declared.cmp.Ordering.{Ordering}
use Rattle.std.specs.declared.cmp.Ordering.TheVariants.{Less}
use Rattle.std.specs.Ordering.{is_lt}
use Rattle.std.specs.Cmp.{IsTotalOrder}
use Rattle.std.specs.Map.{lookup}
use Rattle.std.specs.BTreeMap.{insert_entry, is_at}
use Rattle.std.proofs.lemmas.List.{set_split}
use Rattle.shared_map.specs.Altered.{altered_at}
use Rattle.shared_map.specs.Entries.{IsPast, IsAhead, BeginsAt, Rises, IsParted}
use Rattle.shared_map.proofs.Order.{lookup_past, lookup_ahead, lookup_at, lookup_gap, insert_past, insert_ahead, inserted_at, replaced_at, rises_insert}
use Rattle.shared_map.proofs.Parting.{insert_left, insert_right}

module _ {K X : Type 0} (R : K → K → Ordering) (f : Option X → X) where
  pub altered_past : (a b : List (K × X)) (k : K) → IsPast R k a → altered_at R f (a ++ b) k ≡ a ++ altered_at R f b k
  altered_past a b k h = insert_past R a b k (f (lookup (is_at (R k)) (a ++ b))) h
      ∙ ap (λ o. a ++ insert_entry R b k (f o)) (lookup_past R a b k h)

  pub altered_ahead : (a b : List (K × X)) (k : K) → IsAhead R k b → altered_at R f (a ++ b) k ≡ altered_at R f a k ++ b
  altered_ahead a b k h = insert_ahead R a b k (f (lookup (is_at (R k)) (a ++ b))) h
      ∙ ap (λ o. insert_entry R a k (f o) ++ b) (lookup_ahead R a b k h)

  -- where the key stands, and where it would
  pub altered_there : (es : List (K × X)) (i : ℕ) (d e : K × X) (k : K) → i < length es → IsPast R k (take i es) →
      BeginsAt R k (drop i es)
      → altered_at R f es k ≡ take i es ++ ((get_or es i d).0, f (Some (get_or es i e).1)) ∷ drop (suc i) es
  altered_there es i d e k l p b = ap (λ o. insert_entry R es k (f o)) (lookup_at R es i e k l p b)
      ∙ replaced_at R es i d k (f (Some (get_or es i e).1)) l p b

  pub altered_gap : (es : List (K × X)) (i : ℕ) (k : K) → IsPast R k (take i es) → IsAhead R k (drop i es)
      → altered_at R f es k ≡ take i es ++ (k, f None) ∷ drop i es
  altered_gap es i k p a = ap (λ o. insert_entry R es k (f o)) (lookup_gap R es i k p a)
      ∙ inserted_at R es i k (f None) p a

  -- the same with a copied key
  pub over_there : (es : List (K × X)) (i : ℕ) (d e : K × X) (k j : K) (v w : X) → i < length es →
      IsPast R k (take i es) → BeginsAt R k (drop i es) → j ≡ (get_or es i d).0 → v ≡ (get_or es i e).1 → w ≡ f (Some v)
      → take i es ++ (j, w) ∷ drop (suc i) es ≡ altered_at R f es k
  over_there es i d e k j v w l p b g h q =
      ap (λ (x : K). take i es ++ (x, w) ∷ drop (suc i) es) g
      ∙ ap (λ (x : X). take i es ++ ((get_or es i d).0, x) ∷ drop (suc i) es) (q ∙ ap (λ (x : X). f (Some x)) h)
      ∙ sym (altered_there es i d e k l p b)

  pub in_gap : (es : List (K × X)) (i : ℕ) (k j : K) (v : X) → IsPast R k (take i es) → IsAhead R k (drop i es) → j ≡ k
      → v ≡ f None → take i es ++ (j, v) ∷ drop i es ≡ altered_at R f es k
  in_gap es i k j v p a h w =
      ap (λ (x : K). take i es ++ (x, v) ∷ drop i es) h
      ∙ ap (λ (x : X). take i es ++ (k, x) ∷ drop i es) w
      ∙ sym (altered_gap es i k p a)

  -- entries written over where the key stands, and put in where it would
  pub written_there : (es ds : List (K × X)) (i : ℕ) (d : K × X) (k : K) (v : X) → ds ≡ es → d ≡ get_or es i d →
      i < length ds → IsPast R k (take i ds) → BeginsAt R k (drop i ds) → v ≡ f (Some d.1)
      → set es i (d.0, v) ≡ altered_at R f es k
  written_there es ds i d k v e g l p b w =
      let within : i < length es = subst (λ (x : List (K × X)). i < length x) e l in
      set_split es i (d.0, v) within
      ∙ ap (λ (x : K × X). take i es ++ (x.0, v) ∷ drop (suc i) es) g
      ∙ ap (λ (x : X). take i es ++ ((get_or es i d).0, x) ∷ drop (suc i) es) (w ∙ ap (λ (x : K × X). f (Some x.1)) g)
      ∙ sym (altered_there es i d d k within (subst (λ (x : List (K × X)). IsPast R k (take i x)) e p)
      (subst (λ (x : List (K × X)). BeginsAt R k (drop i x)) e b))

  pub put_in_gap : (es ds fs : List (K × X)) (i : ℕ) (k j : K) (v : X) → ds ≡ es → fs ≡ es → j ≡ k → v ≡ f None →
      IsPast R k (take i ds) → IsAhead R k (drop i ds) → take i fs ++ (j, v) ∷ drop i fs ≡ altered_at R f es k
  put_in_gap es ds fs i k j v e g h w p a =
      ap (λ (x : List (K × X)). take i x ++ (j, v) ∷ drop i x) g
      ∙ ap (λ (x : K). take i es ++ (x, v) ∷ drop i es) h
      ∙ ap (λ (x : X). take i es ++ (k, x) ∷ drop i es) w
      ∙ sym (altered_gap es i k (subst (λ (x : List (K × X)). IsPast R k (take i x)) e p)
      (subst (λ (x : List (K × X)). IsAhead R k (drop i x)) e a))

  module _ (o : IsTotalOrder R) where
    pub rises_altered : (es : List (K × X)) (k : K) → Rises R es → Rises R (altered_at R f es k)
    rises_altered es k s = rises_insert R o es k (f (lookup (is_at (R k)) es)) s

    pub altered_left : (l r : List (K × X)) (s k : K) → IsParted R l s r → R k s ≡ Less →
        IsParted R (altered_at R f l k) s r
    altered_left l r s k a h = insert_left o l r s k (f (lookup (is_at (R k)) l)) a h

    pub altered_right : (l r : List (K × X)) (s k : K) → IsParted R l s r → is_lt (R k s) ≡ false →
        IsParted R l s (altered_at R f r k)
    altered_right l r s k a h = insert_right o l r s k (f (lookup (is_at (R k)) r)) a h
