-- Numbers that stand without a gap, and the way down to a number.
use Rattle.std.proofs.Common.{◌≡◌, ℕ, suc, ◌+◌, ◌<◌, ◌≤◌, true, false, List, [], ◌∷◌, ◌++◌, length, refl, sym, ap, ◌∙◌, subst, arith}
use Rattle.std.specs.Prelude.{is_some, nat_lt, MatchOption, Option, None, Some}
use Rattle.std.specs.declared.cmp.Ordering.TheVariants.{Less, Equal, Greater}
use Rattle.std.specs.Ordering.{nat_cmp, is_eq, is_lt}
use Rattle.std.specs.Cmp.{nat_cmp_is, nat_cmp_total}
use Rattle.std.specs.List.{AllByRecursion}
use Rattle.std.specs.Map.{lookup}
use Rattle.std.specs.BTreeMap.{is_at}
use Rattle.std.proofs.lemmas.Bool.{ltb-true, ltb-false}
use Rattle.std.proofs.lemmas.Map.Keys.{le_from_not_gt}
use Rattle.shared_map.specs.Entries.{IsAhead, IsParted, Rises}
use Rattle.shared_map.specs.private.Dense.{EndsBelow, IsOnWay}
use Rattle.shared_map.proofs.Ahead.{less_below}
use Rattle.shared_map.proofs.Order.{all_map, all_front, all_back, by_bool, lookup_ahead, lookup_past, ahead_from_from, past_from_under}
use Rattle.shared_map.proofs.Running.{cond-true, cond-false}

no_less : (n k : ℕ) → k ≤ n → is_lt (nat_cmp n k) ≡ false
no_less n k h = by_bool (nat_lt k n)
    (λ l. let less : k < n = ltb-true k n l in ap is_lt (sym (nat_cmp_is n k Greater less)))
    (λ l. let more : n ≤ k = ltb-false k n l in let same : n ≡ k = omega (arith, h, more) in ap is_lt
    (sym (nat_cmp_is n k Equal same)))

module _ {X : Type 0} where
  above_first : (e : ℕ × X) (es : List (ℕ × X)) → IsAhead nat_cmp e.0 es → AllByRecursion (λ f. suc e.0 ≤ f.0) es
  above_first e es h = all_map (λ f l. let m = less_below e.0 f.0 l in omega (arith, m)) es h

  -- as many rising numbers fit between two
  fits : (es : List (ℕ × X)) (low high : ℕ) → low ≤ high → Rises nat_cmp es → AllByRecursion (λ e. low ≤ e.0) es →
      AllByRecursion (λ e. e.0 < high) es → length es + low ≤ high
  fits [] low high l r a b = omega (arith, l)
  fits (e ∷ es) low high l r a b =
      let rest = fits es (suc e.0) high (let q = b.0 in omega (arith, q)) r.1 (above_first e es r.0) a-b in
      let p = a.0 in
      omega (arith, rest, p)
    where
      a-b : AllByRecursion (λ f. f.0 < high) es
      a-b = b.1

  -- where as many stand between two as fit there, each number does
  pub dense : (es : List (ℕ × X)) (low high n : ℕ) → Rises nat_cmp es → AllByRecursion (λ e. low ≤ e.0) es →
      AllByRecursion (λ e. e.0 < high) es
      → high ≤ length es + low → low ≤ n → n < high → is_some (lookup (is_at (nat_cmp n)) es) ≡ true
  dense [] low high n r a b full from below = absurd (omega (arith, full, from, below))
  dense (e ∷ es) low high n r a b full from below =
      let more = above_first e es r.0 in
      let end = b.0 in
      let few = fits es (suc e.0) high (omega (arith, end)) r.1 more b.1 in
      let least = a.0 in
      by_bool (nat_lt e.0 n)
      (λ h.
      let l = ltb-true e.0 n h in
      let past : is_eq (nat_cmp n e.0) ≡ is_eq Greater = ap is_eq (sym (nat_cmp_is n e.0 Greater l)) in
      ap is_some (cond-false (Some e.1) (lookup (is_at (nat_cmp n)) es) past) ∙ dense es (suc e.0) high n r.1 more b.1
      (omega (arith, full, few, least)) (omega (arith, l)) below)
      (λ h.
      let l = ltb-false e.0 n h in
      let same : n ≡ e.0 = omega (arith, full, few, least, from, l) in
      let here : is_eq (nat_cmp n e.0) ≡ is_eq Equal = ap is_eq (sym (nat_cmp_is n e.0 Equal same)) in
      ap is_some (cond-true (Some e.1) (lookup (is_at (nat_cmp n)) es) here))

  -- the way down begins at the whole
  from_nothing : (es : List (ℕ × X)) → AllByRecursion (λ e. 0 ≤ e.0) es
  from_nothing [] = tt
  from_nothing (e ∷ es) = (omega arith, from_nothing es)

  pub way_begins : (n : ℕ) (es : List (ℕ × X)) → IsOnWay n 0 None es es
  way_begins n es = record {
    least = omega arith;
    end = λ u e. cc;
    within = record { least = from_nothing es; end = λ u e. cc };
    same = refl;
  }

  -- and goes on at one of two sides
  pub way_left : (n from : ℕ) (upto : Option ℕ) (k : ℕ) (whole here l r : List (ℕ × X)) → here ≡ l ++ r →
      IsParted nat_cmp l k r → IsOnWay n from upto whole here → n < k → IsOnWay n from (Some k) whole l
  way_left n from upto k whole here l r is parted w h = record {
    least = w.least;
    end = λ u e. let s : k ≡ u = cc in omega (arith, s, h);
    within = record {
      least = all_front (λ e. from ≤ e.0) l r (subst (AllByRecursion (λ e. from ≤ e.0)) is w.within.least);
      end = λ u e. let s : k ≡ u = cc in all_map (λ f g. let below = less_below f.0 k g in omega (arith, s, below)) l
          parted.under;
    };
    same = w.same ∙ ap (λ es. is_some (lookup (is_at (nat_cmp n)) es)) is
        ∙ ap is_some (lookup_ahead nat_cmp l r n (ahead_from_from nat_cmp_total r k n parted.from
        (sym (nat_cmp_is n k Less h))));
  }

  pub way_right : (n from : ℕ) (upto : Option ℕ) (k : ℕ) (whole here l r : List (ℕ × X)) → here ≡ l ++ r →
      IsParted nat_cmp l k r → IsOnWay n from upto whole here → k ≤ n → IsOnWay n k upto whole r
  way_right n from upto k whole here l r is parted w h = record {
    least = h;
    end = w.end;
    within = record {
      least = all_map (λ e g. le_from_not_gt k e.0 g) r parted.from;
      end = λ u e. all_back (λ f. f.0 < u) l r (subst (AllByRecursion (λ f. f.0 < u)) is (w.within.end u e));
    };
    same = w.same ∙ ap (λ es. is_some (lookup (is_at (nat_cmp n)) es)) is
        ∙ ap is_some (lookup_past nat_cmp l r n (past_from_under nat_cmp_total l k n parted.under (no_less n k h)));
  }

  -- where what is left has no gap, the number stands there
  pub way_ends : (n from : ℕ) (upto : Option ℕ) (whole here : List (ℕ × X)) → Rises nat_cmp here →
      IsOnWay n from upto whole here → (u : ℕ) → upto ≡ Some u → u ≡ from + length here
      → true ≡ is_some (lookup (is_at (nat_cmp n)) whole)
  way_ends n from upto whole here r w u e full = sym (w.same ∙ dense here from u n r w.within.least (w.within.end u e)
      (omega (arith, full)) w.least (w.end u e))

-- an end that a number from one on is below is no less than that one
pub end_after : (n from : ℕ) (upto : Option ℕ) → from ≤ n → EndsBelow upto n → MatchOption upto (Unit {0})
    (λ u. from ≤ u)
end_after n from None h b = tt
end_after n from (Some u) h b = let below = b u refl in omega (arith, h, below)
