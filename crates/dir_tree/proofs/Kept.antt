-- Maps by number and sets of numbers, once a number goes in or out.
use Rattle.std.proofs.Common.{◌≡◌, ℕ, ◌<◌, Bool, true, false, cond, List, [], ◌∷◌, ◌||◌, refl, sym, ap, ◌∙◌, arith, nat_eq, nat_lt, Option, Some, None, Ordering}
use Rattle.std.specs.Prelude.{◌&&◌, not}
use Rattle.std.specs.List.{AllByRecursion}
use Rattle.std.specs.Ordering.{nat_cmp, is_eq, match_ordering}
use Rattle.std.specs.Cmp.{nat_cmp_is}
use Rattle.std.specs.Map.{lookup, remove_entry}
use Rattle.std.specs.Set.{remove_key}
use Rattle.std.specs.BTreeMap.{insert_entry, is_at}
use Rattle.std.specs.BTreeSet.{insert_key}
use Rattle.dir_entry.specs.shared_map.Entries.{Rises, IsAhead}
use Rattle.dir_entry.specs.shared_map.Sets.{IsRising}
use Rattle.dir_tree.specs.Superiors.{has_number}

pub extended : {A B : Type 0} {f g : A → B} → ((x : A) → f x ≡ g x) → f ≡ g
extended h = λ i x. h x i

pub own_eq : (k : ℕ) → nat_eq k k ≡ true
own_eq k = grind arith

pub same_number : (k n : ℕ) → nat_eq k n ≡ true → k ≡ n
same_number k n h = grind (arith, h)

pub turned_eq : (a b : ℕ) → nat_eq a b ≡ nat_eq b a
turned_eq a b = grind arith

pub apart_eq : (a b : ℕ) → (a ≡ b → ⊥) → nat_eq a b ≡ false
apart_eq a b h = grind (arith, h)

pub is_eq-nat : (k n : ℕ) → is_eq (nat_cmp k n) ≡ nat_eq k n
is_eq-nat k n = by (nat_lt k n) (nat_eq k n) refl refl
  where
    by : (a b : Bool) → nat_lt k n ≡ a → nat_eq k n ≡ b →
        is_eq (cond a Ordering.Less (cond b Ordering.Equal Ordering.Greater)) ≡ b
    by true true f g = absurd (apart f g)
      where
        apart : nat_lt k n ≡ true → nat_eq k n ≡ true → ⊥
        apart f g = grind arith
    by true false f g = refl
    by false true f g = refl
    by false false f g = refl

pub less_apart : (a b : ℕ) → nat_cmp a b ≡ Ordering.Less → nat_eq a b ≡ false
less_apart a b h = by (nat_eq a b) refl
  where
    by : (c : Bool) → nat_eq a b ≡ c → c ≡ false
    by false f = refl
    by true f = absurd (cc (h, sym (nat_cmp_is a b Ordering.Equal (same_number a b f))))

module _ {X : Type 0} where
  -- what a map has under a number
  abbrev pub under : ℕ → List (ℕ × X) → Option X
  under k es = lookup (is_at (nat_cmp k)) es

  pub under-cons : (j : ℕ) (e : ℕ × X) (es : List (ℕ × X)) → under j (e ∷ es) ≡ cond (nat_eq j e.0) (Some e.1)
      (under j es)
  under-cons j e es = ap (λ (b : Bool). cond b (Some e.1) (under j es)) (is_eq-nat j e.0)

  -- another value under a number
  pub under-put : (j k : ℕ) (v : X) (es : List (ℕ × X)) → under j (insert_entry nat_cmp es k v) ≡ cond (nat_eq j k)
      (Some v) (under j es)
  under-put j k v [] = under-cons j (k, v) []
  under-put j k v (e ∷ es) = by (nat_lt k e.0) (nat_eq k e.0) refl refl (under-put j k v es)
    where
      met : k ≡ e.0 → (b : Bool) → cond b (Some v) (under j es) ≡ cond b (Some v) (cond b (Some e.1) (under j es))
      met s true = refl
      met s false = refl

      past : (o : Option X) (a b : Bool) → nat_eq j k ≡ a → nat_eq j e.0 ≡ b → nat_eq k e.0 ≡ false →
          o ≡ cond a (Some v) (under j es) → cond b (Some e.1) o ≡ cond a (Some v) (cond b (Some e.1) (under j es))
      past o true true f g u h = absurd (never f g u)
        where
          never : nat_eq j k ≡ true → nat_eq j e.0 ≡ true → nat_eq k e.0 ≡ false → ⊥
          never f g u = grind (arith, f, g, u)
      past o true false f g u h = h
      past o false true f g u h = refl
      past o false false f g u h = h

      by : (a b : Bool) → nat_lt k e.0 ≡ a → nat_eq k e.0 ≡ b → under j (insert_entry nat_cmp es k v) ≡
          cond (nat_eq j k) (Some v) (under j es)
          → under j (match_ordering (cond a Ordering.Less (cond b Ordering.Equal Ordering.Greater)) ((k, v) ∷ e ∷ es)
          ((e.0, v) ∷ es) (e ∷ insert_entry nat_cmp es k v)) ≡ cond (nat_eq j k) (Some v) (under j (e ∷ es))
      by true b f g ih = under-cons j (k, v) (e ∷ es)
      by false true f g ih =
          let s : k ≡ e.0 = same_number k e.0 g in
          under-cons j (e.0, v) es ∙ ap (λ (n : ℕ). cond (nat_eq j n) (Some v) (under j es)) (sym s)
          ∙ met s (nat_eq j k)
          ∙ ap (λ (n : ℕ). cond (nat_eq j k) (Some v) (cond (nat_eq j n) (Some e.1) (under j es))) s
          ∙ ap (λ (o : Option X). cond (nat_eq j k) (Some v) o) (sym (under-cons j e es))
      by false false f g ih =
          under-cons j e (insert_entry nat_cmp es k v)
          ∙ past (under j (insert_entry nat_cmp es k v)) (nat_eq j k) (nat_eq j e.0) refl refl g ih
          ∙ ap (λ (o : Option X). cond (nat_eq j k) (Some v) o) (sym (under-cons j e es))

  -- a number before all has nothing
  pub under-ahead : (k : ℕ) (es : List (ℕ × X)) → IsAhead nat_cmp k es → under k es ≡ None
  under-ahead k [] h = refl
  under-ahead k (e ∷ es) h = under-cons k e es ∙ ap (λ (b : Bool). cond b (Some e.1) (under k es))
      (less_apart k e.0 h.0) ∙ under-ahead k es h.1

  -- a number without a value
  pub under-out : (j k : ℕ) (es : List (ℕ × X)) → Rises nat_cmp es → under j (remove_entry (is_at (nat_cmp k)) es) ≡
      cond (nat_eq j k) None (under j es)
  under-out j k [] h = by (nat_eq j k)
    where
      none : Option X
      none = None

      by : (b : Bool) → none ≡ cond b none none
      by true = refl
      by false = refl
  under-out j k (e ∷ es) h = ap (λ (b : Bool). under j (cond b es (e ∷ remove_entry (is_at (nat_cmp k)) es)))
      (is_eq-nat k e.0) ∙ by (nat_eq k e.0) refl (under-out j k es h.1)
    where
      first : k ≡ e.0 → (b : Bool) → nat_eq j k ≡ b → under j es ≡ cond b None (cond b (Some e.1) (under j es))
      first s true f = let js : j ≡ e.0 = same_number j k f ∙ s in ap (λ (n : ℕ). under n es) js
          ∙ under-ahead e.0 es h.0
      first s false f = refl

      past : (o : Option X) (a b : Bool) → nat_eq j k ≡ a → nat_eq j e.0 ≡ b → nat_eq k e.0 ≡ false →
          o ≡ cond a None (under j es) → cond b (Some e.1) o ≡ cond a None (cond b (Some e.1) (under j es))
      past o true true f g u h = absurd (never f g u)
        where
          never : nat_eq j k ≡ true → nat_eq j e.0 ≡ true → nat_eq k e.0 ≡ false → ⊥
          never f g u = grind (arith, f, g, u)
      past o true false f g u h = h
      past o false true f g u h = refl
      past o false false f g u h = h

      by : (b : Bool) → nat_eq k e.0 ≡ b → under j (remove_entry (is_at (nat_cmp k)) es) ≡ cond (nat_eq j k) None
          (under j es)
          → under j (cond b es (e ∷ remove_entry (is_at (nat_cmp k)) es)) ≡ cond (nat_eq j k) None (under j (e ∷ es))
      by true f ih =
          let s : k ≡ e.0 = same_number k e.0 f in
          first s (nat_eq j k) refl
          ∙ ap (λ (n : ℕ). cond (nat_eq j k) None (cond (nat_eq j n) (Some e.1) (under j es))) s
          ∙ ap (λ (o : Option X). cond (nat_eq j k) None o) (sym (under-cons j e es))
      by false f ih =
          under-cons j e (remove_entry (is_at (nat_cmp k)) es) ∙ past (under j (remove_entry (is_at (nat_cmp k)) es))
          (nat_eq j k) (nat_eq j e.0) refl refl f ih
          ∙ ap (λ (o : Option X). cond (nat_eq j k) None o) (sym (under-cons j e es))

-- ---- sets

or_in : (a b c : Bool) → a ≡ b → (a || c) ≡ (b || (a || c))
or_in true b c e = by b (sym e)
  where
    by : (b : Bool) → b ≡ true → true ≡ (b || true)
    by true f = refl
    by false f = refl
or_in false b c e = by b (sym e)
  where
    by : (b : Bool) → b ≡ false → c ≡ (b || c)
    by false f = refl
    by true f = absurd (cc f)

or_turn : (a b c d : Bool) → d ≡ (b || c) → (a || d) ≡ (b || (a || c))
or_turn true true c d h = refl
or_turn true false c d h = refl
or_turn false true c d h = h
or_turn false false c d h = h

-- a set with a number
pub has-put : (j n : ℕ) (s : List ℕ) → has_number j (insert_key nat_cmp s n) ≡ (nat_eq j n || has_number j s)
has-put j n [] = refl
has-put j n (x ∷ s) = by (nat_lt n x) (nat_eq n x) refl (has-put j n s)
  where
    by : (a b : Bool) → nat_eq n x ≡ b → has_number j (insert_key nat_cmp s n) ≡ (nat_eq j n || has_number j s)
        → has_number j (match_ordering (cond a Ordering.Less (cond b Ordering.Equal Ordering.Greater)) (n ∷ x ∷ s)
        (x ∷ s) (x ∷ insert_key nat_cmp s n)) ≡ (nat_eq j n || (nat_eq j x || has_number j s))
    by true b f ih = refl
    by false true f ih = or_in (nat_eq j x) (nat_eq j n) (has_number j s)
        (ap (λ (k : ℕ). nat_eq j k) (sym (same_number n x f)))
    by false false f ih = or_turn (nat_eq j x) (nat_eq j n) (has_number j s) (has_number j (insert_key nat_cmp s n)) ih

-- a number before all of a set isn't in it
pub has-ahead : (k : ℕ) (s : List ℕ) → AllByRecursion (λ y. k < y) s → has_number k s ≡ false
has-ahead k [] h = refl
has-ahead k (x ∷ s) h = let lt : k < x = h.0 in let off : nat_eq k x ≡ false =
    grind arith in ap (λ (b : Bool). b || has_number k s) off ∙ has-ahead k s h.1

-- a set without a number
pub has-out : (j n : ℕ) (s : List ℕ) → IsRising s → has_number j (remove_key (is_at (nat_cmp n)) s) ≡
    (not (nat_eq j n) && has_number j s)
has-out j n [] h = by (nat_eq j n)
  where
    by : (b : Bool) → false ≡ (not b && false)
    by true = refl
    by false = refl
has-out j n (x ∷ s) h = ap (λ (b : Bool). has_number j (cond b s (x ∷ remove_key (is_at (nat_cmp n)) s)))
    (is_eq-nat n x) ∙ by (nat_eq n x) refl (has-out j n s h.1)
  where
    first : (b : Bool) → nat_eq j x ≡ b → has_number j s ≡ (not b && (b || has_number j s))
    first true f = ap (λ (k : ℕ). has_number k s) (same_number j x f) ∙ has-ahead x s h.0
    first false f = refl

    past : (a b c d : Bool) → nat_eq j x ≡ a → nat_eq j n ≡ b → nat_eq n x ≡ false → d ≡ (not b && c) →
        (a || d) ≡ (not b && (a || c))
    past true true c d f g u h = absurd (never f g u)
      where
        never : nat_eq j x ≡ true → nat_eq j n ≡ true → nat_eq n x ≡ false → ⊥
        never f g u = grind (arith, f, g, u)
    past true false c d f g u h = refl
    past false true c d f g u h = h
    past false false c d f g u h = h

    by : (b : Bool) → nat_eq n x ≡ b → has_number j (remove_key (is_at (nat_cmp n)) s) ≡ (not (nat_eq j n)
        && has_number j s) → has_number j (cond b s (x ∷ remove_key (is_at (nat_cmp n)) s)) ≡ (not (nat_eq j n)
        && (nat_eq j x || has_number j s))
    by true f ih = first (nat_eq j x) refl ∙ ap (λ (k : ℕ). not (nat_eq j k) && (nat_eq j x || has_number j s))
        (sym (same_number n x f))
    by false f ih = past (nat_eq j x) (nat_eq j n) (has_number j s) (has_number j (remove_key (is_at (nat_cmp n)) s))
        refl refl f ih

-- what a rising list has is not below its first
has-below : (j x : ℕ) (s : List ℕ) → AllByRecursion (λ y. x < y) s → has_number j s ≡ true → x < j
has-below j x [] h t = absurd (cc t)
has-below j x (y ∷ s) h t = by (nat_eq j y) refl t (has-below j x s h.1)
  where
    by : (b : Bool) → nat_eq j y ≡ b → (b || has_number j s) ≡ true → (has_number j s ≡ true → x < j) → x < j
    by true f g ih = let e : j ≡ y = same_number j y f in let lt : x < y = h.0 in omega arith
    by false f g ih = ih g

or_left : (a b : Bool) → a ≡ true → (a || b) ≡ true
or_left true b h = refl
or_left false b h = absurd (cc h)

or_split : (a b : Bool) → (a || b) ≡ true → a ≡ false → b ≡ true
or_split true b h f = absurd (cc f)
or_split false b h f = h

-- two rising lists with the same numbers are one
pub same_set : (xs ys : List ℕ) → IsRising xs → IsRising ys → ((j : ℕ) → has_number j xs ≡ has_number j ys) → xs ≡ ys
same_set [] [] h g e = refl
same_set [] (y ∷ ys) h g e = absurd (cc (e y, or_left (nat_eq y y) (has_number y ys) (own_eq y)))
same_set (x ∷ xs) [] h g e = absurd (cc (e x, or_left (nat_eq x x) (has_number x xs) (own_eq x)))
same_set (x ∷ xs) (y ∷ ys) h g e = by (nat_lt x y) (nat_lt y x) refl refl (same_set xs ys h.1 g.1)
  where
    on_left : has_number x (y ∷ ys) ≡ true
    on_left = sym (e x) ∙ or_left (nat_eq x x) (has_number x xs) (own_eq x)

    on_right : has_number y (x ∷ xs) ≡ true
    on_right = e y ∙ or_left (nat_eq y y) (has_number y ys) (own_eq y)

    off : (a b : ℕ) → a < b → nat_eq a b ≡ false
    off a b l = grind arith

    never : (a b : ℕ) (s : List ℕ) → a < b → AllByRecursion (λ z. b < z) s → has_number a (b ∷ s) ≡ true → ⊥
    never a b s l r t = let lt : b < a = has-below a b s r (or_split (nat_eq a b) (has_number a s) t (off a b l))
        in omega arith

    tail : x ≡ y → (j : ℕ) → has_number j xs ≡ has_number j ys
    tail s j = either (nat_eq j x) refl (e j)
      where
        either : (b : Bool) → nat_eq j x ≡ b → (nat_eq j x || has_number j xs) ≡ (nat_eq j y || has_number j ys) →
            has_number j xs ≡ has_number j ys
        either true f t =
            let jx : j ≡ x = same_number j x f in
            ap (λ (k : ℕ). has_number k xs) jx ∙ has-ahead x xs h.0 ∙ sym (ap (λ (k : ℕ). has_number k ys) (jx ∙ s)
            ∙ has-ahead y ys g.0)
        either false f t = sym (ap (λ (b : Bool). b || has_number j xs) f) ∙ t
            ∙ ap (λ (k : ℕ). nat_eq j k || has_number j ys) (sym s) ∙ ap (λ (b : Bool). b || has_number j ys) f

    by : (a b : Bool) → nat_lt x y ≡ a → nat_lt y x ≡ b → (((j : ℕ) → has_number j xs ≡ has_number j ys) → xs ≡ ys) →
        (x ∷ xs) ≡ (y ∷ ys)
    by true b f k ih = absurd (never x y ys (let l : x < y = grind (arith, f) in l) g.0 on_left)
    by false true f k ih = absurd (never y x xs (let l : y < x = grind (arith, k) in l) h.0 on_right)
    by false false f k ih =
        let s : x ≡ y = grind (arith, f, k) in
        let t : xs ≡ ys = ih (tail s) in
        cc (s, t)
