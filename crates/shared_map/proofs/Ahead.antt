-- Parts of rising lists of numbers.
use Rattle.std.proofs.Common.{◌≡◌, ℕ, ◌<◌, ◌≤◌, ◌-◌, ◌||◌, Bool, true, false, cond, List, [], ◌∷◌, ◌++◌, length, take, drop, refl, sym, ap, ◌∙◌, subst, arith}
use Rattle.std.specs.Prelude.{Option, None, Some, filter, nat_lt, nat_le, nat_eq, slice_get, slice_index_or}
use Rattle.std.specs.declared.cmp.Ordering.TheVariants.{Less, Equal, Greater}
use Rattle.std.specs.Ordering.{nat_cmp, eq_by_cmp}
use Rattle.std.specs.Cmp.{unsigned_ties}
use Rattle.std.specs.List.{list_any, AllByRecursion}
use Rattle.std.specs.Map.{keys_of}
use Rattle.std.proofs.lemmas.Bool.{ltb-true, lt-ltb, le-leb, leb-true, leb-false}
use Rattle.shared_map.specs.Entries.{IsAhead, Rises}
use Rattle.shared_map.specs.Sets.{has_number, IsRising}
use Rattle.shared_map.specs.Ahead.{ahead}
use Rattle.shared_map.specs.private.Ahead.{IsHead, IsAmid}
use Rattle.shared_map.proofs.Order.{by_bool, rest_is}
use Rattle.shared_map.proofs.Running.{cond-true, cond-false}

says_less : (a b : Bool) → cond a Less (cond b Equal Greater) ≡ Less → a ≡ true
says_less true b h = refl
says_less false true h = cc
says_less false false h = cc

pub less_below : (x y : ℕ) → nat_cmp x y ≡ Less → x < y
less_below x y h = ltb-true x y (says_less (nat_lt x y) (nat_eq x y) h)

keys_below : {X : Type 0} (x : ℕ) (es : List (ℕ × X)) → IsAhead nat_cmp x es → AllByRecursion (λ y. x < y) (keys_of es)
keys_below x [] a = tt
keys_below x (e ∷ es) a = (less_below x e.0 a.0, keys_below x es a.1)

-- the keys of a map in order rise
pub keys_rise : {X : Type 0} (es : List (ℕ × X)) → Rises nat_cmp es → IsRising (keys_of es)
keys_rise [] r = tt
keys_rise (e ∷ es) r = (keys_below e.0 es r.0, keys_rise es r.1)

pub has_by_cmp : (n : ℕ) (ns : List ℕ) → list_any (eq_by_cmp nat_cmp n) ns ≡ has_number n ns
has_by_cmp n [] = refl
has_by_cmp n (m ∷ ns) = let e = sym (unsigned_ties n m) in let r = has_by_cmp n ns in λ i. e i || r i

all_more : {P Q : ℕ → Type 0} → ((y : ℕ) → P y → Q y) → (ns : List ℕ) → AllByRecursion P ns → AllByRecursion Q ns
all_more f [] a = tt
all_more f (x ∷ xs) a = (f x a.0, all_more f xs a.1)

some_kept : (P : ℕ → Type 0) (t : Bool) (x : ℕ) (xs : List ℕ) → P x → AllByRecursion P xs →
    AllByRecursion P (cond t (x ∷ xs) xs)
some_kept P true x xs p a = (p, a)
some_kept P false x xs p a = a

all_kept : (P : ℕ → Type 0) (test : ℕ → Bool) (ns : List ℕ) → AllByRecursion P ns → AllByRecursion P (filter test ns)
all_kept P test [] a = tt
all_kept P test (x ∷ xs) a = some_kept P (test x) x (filter test xs) a.0 (all_kept P test xs a.1)

not_below : (a b : ℕ) → b ≤ a → nat_lt a b ≡ false
not_below a b h = by_bool (nat_lt a b) (λ p. let q : a < b = ltb-true a b p in absurd (omega arith)) (λ p. p)

all_above : (k : ℕ) (ns : List ℕ) → AllByRecursion (λ y. k < y) ns → filter (nat_lt k) ns ≡ ns
all_above k [] a = refl
all_above k (x ∷ xs) a = cond-true _ _ (lt-ltb k x a.0) ∙ ap (λ l. x ∷ l) (all_above k xs a.1)

head_is : (x n : ℕ) (xs ys : List ℕ) → x ∷ xs ≡ n ∷ ys → n ≡ x
head_is x n xs ys h = cc

tail_is : (x n : ℕ) (xs ys : List ℕ) → x ∷ xs ≡ n ∷ ys → xs ≡ ys
tail_is x n xs ys h = cc

-- what comes after the first of what comes after a number
after_next : (ns : List ℕ) (k n : ℕ) (more : List ℕ) → IsRising ns → filter (nat_lt k) ns ≡ n ∷ more →
    filter (nat_lt n) ns ≡ more
after_next [] k n more s h = cc
after_next (x ∷ xs) k n more s h = by_bool (nat_lt k x)
    (λ p.
    let here = sym (cond-true (x ∷ filter (nat_lt k) xs) (filter (nat_lt k) xs) p) ∙ h in
    let low : k < x = ltb-true k x p in
    let rest : filter (nat_lt k) xs ≡ xs = all_above k xs (all_more (λ y u. omega (arith, u, low)) xs s.0) in
    subst (λ m. filter (nat_lt m) (x ∷ xs) ≡ more) (sym (head_is x n _ _ here))
    (cond-false _ _ (not_below x x (omega arith)) ∙ all_above x xs s.0 ∙ sym rest ∙ tail_is x n _ _ here))
    (λ p.
    let there = sym (cond-false (x ∷ filter (nat_lt k) xs) (filter (nat_lt k) xs) p) ∙ h in
    let up = subst (AllByRecursion (λ y. x < y)) there (all_kept (λ y. x < y) (nat_lt k) xs s.0) in
    let over : x < n = up.0 in
    cond-false _ _ (not_below n x (omega arith)) ∙ after_next xs k n more s.1 there)

after_first : (ns : List ℕ) (n : ℕ) (more : List ℕ) → IsRising ns → ns ≡ n ∷ more → filter (nat_lt n) ns ≡ more
after_first [] n more s h = cc
after_first (x ∷ xs) n more s h =
    subst (λ m. filter (nat_lt m) (x ∷ xs) ≡ more) (sym (head_is x n _ _ h))
    (cond-false _ _ (not_below x x (omega arith)) ∙ all_above x xs s.0 ∙ tail_is x n _ _ h)

module _ {X : Type 0} where
  -- a walk that begins with a head
  pub head_whole : (ns : List ℕ) (first : Option ℕ) (run : List (ℕ × X)) → IsRising ns → IsHead ns first run →
      ahead ns first ≡ ns
  head_whole ns None run s h = sym h
  head_whole ns (Some n) run s h = ap (λ l. n ∷ l) (after_first ns n (keys_of run ++ h.0) s h.1) ∙ sym h.1

  pub head_after : (ns : List ℕ) (k : ℕ) (first : Option ℕ) (run : List (ℕ × X)) → IsRising ns →
      IsHead (filter (nat_lt k) ns) first run → ahead ns first ≡ filter (nat_lt k) ns
  head_after ns k None run s h = sym h
  head_after ns k (Some n) run s h = ap (λ l. n ∷ l) (after_next ns k n (keys_of run ++ h.0) s h.1) ∙ sym h.1

  pub amid : (ns whole : List ℕ) (first : Option ℕ) (run : List (ℕ × X)) → IsRising ns → ahead ns first ≡ whole →
      IsHead whole first run → IsAmid ns first run
  amid ns whole first run s e h = record { rising = s; head = subst (λ l. IsHead l first run) (sym e) h }

  pub run_is : (run : List (ℕ × X)) (d : ℕ × X) → 1 ≤ length run → run ≡ slice_index_or run 0 d ∷ take
      (length run - 1) (drop 1 run)
  run_is [] d l = absurd (omega arith)
  run_is (e ∷ es) d l = ap (λ r. e ∷ r) (sym (rest_is 1 (e ∷ es)))

  -- a walk one number further within its run
  step_from : (ns : List ℕ) (n : ℕ) (run : List (ℕ × X)) (e : ℕ × X) (es : List (ℕ × X)) → IsAmid ns (Some n) run →
      run ≡ e ∷ es → filter (nat_lt n) ns ≡ e.0 ∷ filter (nat_lt e.0) ns
  step_from ns n run e es a h =
      let split = subst (λ r. n ∷ filter (nat_lt n) ns ≡ n ∷ (keys_of r ++ a.head.0)) h a.head.1 in
      let there = tail_is n n _ _ split in
      there ∙ ap (λ l. e.0 ∷ l) (sym (after_next ns n e.0 (keys_of es ++ a.head.0) a.rising there))

  pub step_value : (ns : List ℕ) (first : Option ℕ) (run : List (ℕ × X)) (e : ℕ × X) (es : List (ℕ × X))
      (number : ℕ) → IsAmid ns first run → run ≡ e ∷ es → slice_get (ahead ns first) 0 ≡ Some number →
      ahead ns first ≡ number ∷ e.0 ∷ filter (nat_lt e.0) ns
  step_value ns None run e es number a h g = cc
  step_value ns (Some n) run e es number a h g =
      let same : n ≡ number = cc in
      ap (λ l. n ∷ l) (step_from ns n run e es a h) ∙ ap (λ m. m ∷ e.0 ∷ filter (nat_lt e.0) ns) same

  pub step_amid : (ns : List ℕ) (first : Option ℕ) (run : List (ℕ × X)) (e : ℕ × X) (es : List (ℕ × X)) (number : ℕ) →
      IsAmid ns first run → run ≡ e ∷ es → slice_get (ahead ns first) 0 ≡ Some number → IsAmid ns (Some e.0) es
  step_amid ns None run e es number a h g = cc
  step_amid ns (Some n) run e es number a h g =
      let split = subst (λ r. n ∷ filter (nat_lt n) ns ≡ n ∷ (keys_of r ++ a.head.0)) h a.head.1 in
      let there = tail_is n n _ _ split in
      record { rising = a.rising; head = (a.head.0, sym (step_from ns n run e es a h) ∙ there) }

module _ (least n : ℕ) where
  kept_least : (ns : List ℕ) → least ≤ n → filter (nat_le least) (filter (nat_lt n) ns) ≡ filter (nat_lt n) ns
  kept_least [] h = refl
  kept_least (x ∷ xs) h = by_bool (nat_lt n x)
      (λ p.
      let over : n < x = ltb-true n x p in
      ap (filter (nat_le least)) (cond-true (x ∷ filter (nat_lt n) xs) (filter (nat_lt n) xs) p)
      ∙ cond-true _ _ (le-leb least x (omega arith)) ∙ ap (λ l. x ∷ l) (kept_least xs h)
      ∙ sym (cond-true (x ∷ filter (nat_lt n) xs) (filter (nat_lt n) xs) p))
      (λ p.
      ap (filter (nat_le least)) (cond-false (x ∷ filter (nat_lt n) xs) (filter (nat_lt n) xs) p)
      ∙ kept_least xs h
      ∙ sym (cond-false (x ∷ filter (nat_lt n) xs) (filter (nat_lt n) xs) p))

  least_kept : (ns : List ℕ) → n < least → filter (nat_le least) (filter (nat_lt n) ns) ≡ filter (nat_lt (least - 1)) ns
  least_kept [] h = refl
  least_kept (x ∷ xs) h = by_bool (nat_le least x)
      (λ q.
      let over : least ≤ x = leb-true least x q in
      ap (filter (nat_le least)) (cond-true (x ∷ filter (nat_lt n) xs) (filter (nat_lt n) xs)
      (lt-ltb n x (omega arith)))
      ∙ cond-true _ _ q ∙ ap (λ l. x ∷ l) (least_kept xs h)
      ∙ sym (cond-true (x ∷ filter (nat_lt (least - 1)) xs) (filter (nat_lt (least - 1)) xs)
      (lt-ltb (least - 1) x (omega arith))))
      (λ q.
      let under : x < least = leb-false least x q in
      let gone = cond-false (x ∷ filter (nat_lt (least - 1)) xs) (filter (nat_lt (least - 1)) xs)
      (not_below (least - 1) x (omega arith)) in
      by_bool (nat_lt n x)
      (λ p.
      ap (filter (nat_le least)) (cond-true (x ∷ filter (nat_lt n) xs) (filter (nat_lt n) xs) p)
      ∙ cond-false _ _ q ∙ least_kept xs h ∙ sym gone)
      (λ p.
      ap (filter (nat_le least)) (cond-false (x ∷ filter (nat_lt n) xs) (filter (nat_lt n) xs) p)
      ∙ least_kept xs h ∙ sym gone))

  from_least : (ns : List ℕ) → least ≤ n → n ∷ filter (nat_lt n) ns ≡ filter (nat_le least) (n ∷ filter (nat_lt n) ns)
  from_least ns h = sym (cond-true _ _ (le-leb least n h) ∙ ap (λ l. n ∷ l) (kept_least ns h))

  -- a walk whose next number is at least what is sought
  pub at_least : (ns whole : List ℕ) (first : Option ℕ) → ahead ns first ≡ whole → first ≡ Some n → least ≤ n →
      whole ≡ filter (nat_le least) whole
  at_least ns whole first e f h =
      let is = sym e ∙ ap (ahead ns) f in
      subst (λ l. l ≡ filter (nat_le least) l) (sym is) (from_least ns h)

  -- a walk that goes on behind a number below what is sought
  pub above_least : (ns whole : List ℕ) (first : Option ℕ) → ahead ns first ≡ whole → slice_get whole 0 ≡ Some n →
      n < least → filter (nat_lt (least - 1)) ns ≡ filter (nat_le least) whole
  above_least ns whole None e f h =
      let g : slice_get [] 0 ≡ Some n = ap (λ l. slice_get l 0) e ∙ f in cc
  above_least ns whole (Some m) e f h =
      let g : Some m ≡ Some n = ap (λ l. slice_get l 0) e ∙ f in
      let same : m ≡ n = cc in
      let is : n ∷ filter (nat_lt n) ns ≡ whole = sym (ap (λ k. ahead ns (Some k)) same) ∙ e in
      sym (least_kept ns h) ∙ sym
      (cond-false _ _ (by_bool (nat_le least n) (λ q. let over : least ≤ n = leb-true least n q in absurd
      (omega arith)) (λ q. q))) ∙ ap (filter (nat_le least)) is
