-- Keys that stand within a part of a list in order.
use Rattle.std.proofs.Common.{◌≡◌, ℕ, zero, suc, ◌<◌, false, List, [], ◌∷◌, ◌++◌, length, get_or, ap, subst, ◌∙◌, arith, append_assoc}
use Rattle.std.specs.declared.cmp.Ordering.{Ordering}
use Rattle.std.specs.declared.cmp.Ordering.TheVariants.{Less, Greater}
use Rattle.std.specs.Ordering.{is_lt}
use Rattle.std.specs.Cmp.{IsTotalOrder}
use Rattle.std.specs.Map.{lookup}
use Rattle.std.specs.BTreeMap.{is_at}
use Rattle.shared_map.specs.Entries.{IsUnder, IsAhead, Rises}
use Rattle.shared_map.specs.private.Runs.{IsPart}
use Rattle.shared_map.proofs.Order.{by_ordering, all_map, all_back, past_from_under, rises_front, rises_back, lookup_past, lookup_ahead}

-- a part of a list in order is in order
pub part_rises : {K X : Type 0} (R : K → K → Ordering) (es run : List (K × X)) → Rises R es → IsPart run es →
    Rises R run
part_rises R es run s p = rises_front R run p.after (rises_back R p.before (run ++ p.after) (subst (Rises R) p.is s))

-- a part of the back of a list is one of the list
pub part_back : {A : Type 0} (front back whole xs : List A) → whole ≡ front ++ back → IsPart xs back → IsPart xs whole
part_back front back whole xs e p = record {
  before = front ++ p.before;
  after = p.after;
  is = rw append_assoc
      (e ∙ ap (λ x. front ++ x) p.is);
}

module _ {K : Type 0} {R : K → K → Ordering} (o : IsTotalOrder R) where
  less_through : (k l e : K) → (R k l ≡ Greater → ⊥) → R l e ≡ Less → R k e ≡ Less
  less_through k l e n h = by_ordering (R k l) (λ p. o.trans k l e p h) (λ p. o.congr k l e p ∙ h) (λ p. absurd (n p))

module _ {K X : Type 0} {R : K → K → Ordering} (o : IsTotalOrder R) where
  under_of : (a : List (K × X)) (f : K × X) (b : List (K × X)) → Rises R (a ++ f ∷ b) → IsUnder R a f.0
  under_of [] f b s = tt
  under_of (e ∷ a) f b s = let h = all_back (λ g. R e.0 g.0 ≡ Less) a (f ∷ b) s.0 in (h.0, under_of a f b s.1)

  ahead_of : (run : List (K × X)) (i : ℕ) (d : K × X) (b : List (K × X)) → i < length run → Rises R (run ++ b) →
      IsAhead R (get_or run i d).0 b
  ahead_of [] i d b l s = absurd (omega arith)
  ahead_of (e ∷ run) zero d b l s = all_back _ run b s.0
  ahead_of (e ∷ run) (suc i) d b l s = ahead_of run i d b (omega arith) s.1

  -- a key that is neither below the first of a part nor above one of its entries is looked up there
  pub within : (run before after : List (K × X)) (d : K × X) (i : ℕ) (g : K × X) (k : K) → i < length run
      → is_lt (R k (get_or run 0 d).0) ≡ false → (R k (get_or run i g).0 ≡ Greater → ⊥)
      → Rises R (before ++ (run ++ after)) → lookup (is_at (R k)) (before ++ (run ++ after)) ≡ lookup (is_at (R k)) run
  within [] before after d i g k l n m s = absurd (omega arith)
  within (f ∷ run) before after d i g k l n m s =
      let past = past_from_under o before f.0 k (under_of before f (run ++ after) s) n in
      let ahead = all_map (λ e h. less_through o k (get_or (f ∷ run) i g).0 e.0 m h) after
      (ahead_of (f ∷ run) i g after l (rises_back R before ((f ∷ run) ++ after) s)) in
      lookup_past R before ((f ∷ run) ++ after) k past ∙ lookup_ahead R (f ∷ run) after k ahead
