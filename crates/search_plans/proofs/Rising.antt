-- Rising lists, and how far a run has come.
use Rattle.std.proofs.Common.{◌≡◌, ℕ, ◌<◌, Bool, true, false, ◌&&◌, ◌||◌, List, [], ◌∷◌, map, cond, nat_eq, refl, sym, ap, ap₂, subst, ◌∙◌, eqb-true, eq-eqb, arith}
use Rattle.std.specs.Prelude.{filter}
use Rattle.std.specs.List.{list_any, AllByRecursion}
use Rattle.dir_index.specs.Postings.{has_number, IsRising}
use Rattle.search_plans.specs.Streams.{Covers, Draws}
pub use Rattle.search_plans.proofs.Searching.{both_false as or_none}

pub any_map : {X Y : Type 0} (p : Y → Bool) (h : X → Y) (xs : List X) → list_any p (map h xs) ≡
    list_any (λ x. p (h x)) xs
any_map p h [] = refl
any_map p h (x ∷ xs) = ap (λ (b : Bool). p (h x) || b) (any_map p h xs)

pub differs : (n m : ℕ) → n < m → nat_eq n m ≡ false
differs n m h =
    (elim (nat_eq n m) as (λ v. nat_eq n m ≡ v → v ≡ false) [
      | true ↦ λ e. let same : n ≡ m = eqb-true n m e in absurd (omega arith)
      | false ↦ λ e. refl
    ]) refl

pub below_all : (n : ℕ) (xs : List ℕ) → AllByRecursion (λ y. n < y) xs → has_number n xs ≡ false
below_all n [] h = refl
below_all n (x ∷ xs) h = or_none _ _ (differs n x h.0) (below_all n xs h.1)

-- a number of a list above m is above m
pub has_above : (n m : ℕ) (xs : List ℕ) → AllByRecursion (λ y. m < y) xs → has_number n xs ≡ true → m < n
has_above n m [] h k = cc
has_above n m (x ∷ xs) h k =
    (elim (nat_eq n x) as (λ v. nat_eq n x ≡ v → (v || has_number n xs) ≡ true → m < n) [
      | true ↦ λ e u. let same : n ≡ x = eqb-true n x e in let lt : m < x = h.0 in omega arith
      | false ↦ λ e u. has_above n m xs h.1 u
    ]) refl k

pub all_above : (m n : ℕ) (xs : List ℕ) → m < n → AllByRecursion (λ y. n < y) xs → AllByRecursion (λ y. m < y) xs
all_above m n [] lt h = tt
all_above m n (x ∷ xs) lt h = (let k : n < x = h.0 in omega arith, all_above m n xs lt h.1)

pub has_head : (x : ℕ) (xs : List ℕ) → has_number x (x ∷ xs) ≡ true
has_head x xs = ap (λ (b : Bool). b || has_number x xs) (eq-eqb x x refl)

-- the heads are the same
heads : (x y : ℕ) (xs ys : List ℕ) → IsRising (x ∷ xs) → IsRising (y ∷ ys) → has_number x (y ∷ ys) ≡ true →
    has_number y (x ∷ xs) ≡ true → x ≡ y
heads x y xs ys rx ry h k =
    (elim (nat_eq x y) as (λ v. nat_eq x y ≡ v → (v || has_number x ys) ≡ true → x ≡ y) [
      | true ↦ λ e u. eqb-true x y e
      | false ↦ λ e u.
          let lt : y < x = has_above x y ys ry.0 u in
          (elim (nat_eq y x) as (λ v. nat_eq y x ≡ v → (v || has_number y xs) ≡ true → x ≡ y) [
            | true ↦ λ d w. sym (eqb-true y x d)
            | false ↦ λ d w. let gt : x < y = has_above y x xs rx.0 w in absurd (omega arith)
          ]) refl k
    ]) refl h

tails : (n x y : ℕ) (xs ys : List ℕ) → x ≡ y → AllByRecursion (λ z. x < z) xs → AllByRecursion (λ z. y < z) ys →
    has_number n (x ∷ xs) ≡ has_number n (y ∷ ys) → has_number n xs ≡ has_number n ys
tails n x y xs ys head ax ay same =
    (elim (nat_eq n x) as (λ v. nat_eq n x ≡ v → (v || has_number n xs) ≡ (nat_eq n y || has_number n ys) →
    has_number n xs ≡ has_number n ys) [
      | true ↦ λ e u.
          let here : n ≡ x = eqb-true n x e in
          let up : AllByRecursion (λ z. n < z) xs = subst (λ (m : ℕ). AllByRecursion (λ z. m < z) xs) (sym here) ax in
          let up' : AllByRecursion (λ z. n < z) ys = subst (λ (m : ℕ). AllByRecursion (λ z. m < z) ys)
          (sym (here ∙ head)) ay in
          below_all n xs up ∙ sym (below_all n ys up')
      | false ↦ λ e u.
          let other : nat_eq n y ≡ false = ap (nat_eq n) (sym head) ∙ e in
          u ∙ ap (λ (b : Bool). b || has_number n ys) other
    ]) refl same

-- rising lists of the same numbers are the same
pub rising_same : (xs ys : List ℕ) → IsRising xs → IsRising ys → ((n : ℕ) → has_number n xs ≡ has_number n ys) → xs ≡ ys
rising_same [] [] rx ry same = refl
rising_same [] (y ∷ ys) rx ry same = let k : false ≡ true = same y ∙ has_head y ys in cc
rising_same (x ∷ xs) [] rx ry same = let k : true ≡ false = sym (has_head x xs) ∙ same x in cc
rising_same (x ∷ xs) (y ∷ ys) rx ry same =
    let head : x ≡ y = heads x y xs ys rx ry (sym (same x) ∙ has_head x xs) (same y ∙ has_head y ys) in
    ap₂ (λ (a : ℕ) (b : List ℕ). a ∷ b) head (rising_same xs ys rx.1 ry.1 (λ n. tails n x y xs ys head rx.0 ry.0
    (same n)))

pub filter_above : (p : ℕ → Bool) (m : ℕ) (xs : List ℕ) → AllByRecursion (λ y. m < y) xs → AllByRecursion (λ y. m < y)
    (filter p xs)
filter_above p m [] h = tt
filter_above p m (x ∷ xs) h =
    elim (p x) as (λ v. AllByRecursion (λ y. m < y) (cond v (x ∷ filter p xs) (filter p xs))) [
      | true ↦ (h.0, filter_above p m xs h.1)
      | false ↦ filter_above p m xs h.1
    ]

pub filter_rising : (p : ℕ → Bool) (xs : List ℕ) → IsRising xs → IsRising (filter p xs)
filter_rising p [] h = tt
filter_rising p (x ∷ xs) h =
    elim (p x) as (λ v. IsRising (cond v (x ∷ filter p xs) (filter p xs))) [
      | true ↦ (filter_above p x xs h.0, filter_rising p xs h.1)
      | false ↦ filter_rising p xs h.1
    ]

and_none : (b : Bool) → (b && false) ≡ false
and_none true = refl
and_none false = refl

pub has_filter : (p : ℕ → Bool) (n : ℕ) (xs : List ℕ) → has_number n (filter p xs) ≡ (has_number n xs && p n)
has_filter p n [] = refl
has_filter p n (x ∷ xs) =
    (elim (nat_eq n x) as (λ v. nat_eq n x ≡ v → has_number n (filter p (x ∷ xs)) ≡ ((v || has_number n xs) && p n)) [
      | true ↦ λ e.
          let same : n ≡ x = eqb-true n x e in
          (elim (p x) as (λ w. p x ≡ w → has_number n (cond w (x ∷ filter p xs) (filter p xs)) ≡ p n) [
            | true ↦ λ d. ap (λ (b : Bool). b || has_number n (filter p xs)) e ∙ sym (ap p same ∙ d)
            | false ↦ λ d. has_filter p n xs ∙ ap (λ (b : Bool). has_number n xs && b) (ap p same ∙ d)
                ∙ and_none (has_number n xs) ∙ sym (ap p same ∙ d)
          ]) refl
      | false ↦ λ e.
          elim (p x) as (λ w. has_number n (cond w (x ∷ filter p xs) (filter p xs)) ≡ (has_number n xs && p n)) [
            | true ↦ ap (λ (b : Bool). b || has_number n (filter p xs)) e ∙ has_filter p n xs
            | false ↦ has_filter p n xs
          ]
    ]) refl

covered : (c s q : Bool) → (s ≡ true → q ≡ true → c ≡ true) → (c && (s && q)) ≡ (s && q)
covered true s q h = refl
covered false true true h = let k : false ≡ true = h refl refl in cc
covered false true false h = refl
covered false false q h = refl

-- The candidates that are in scope and pass are those of the scope that pass.
pub filters_agree : (p : ℕ → Bool) (scope candidates : List ℕ) → IsRising scope → IsRising candidates →
    Covers p scope candidates
    → filter (λ n. has_number n scope && p n) candidates ≡ filter p scope
filters_agree p scope candidates rs rc covers =
    rising_same _ _ (filter_rising _ candidates rc) (filter_rising p scope rs)
    (λ n. has_filter (λ m. has_number m scope && p m) n candidates ∙ covered (has_number n candidates)
    (has_number n scope) (p n) (covers n) ∙ sym (has_filter p n scope))

-- rising candidates that have all that may be found draw it from the scope
pub drawn : (may : ℕ → Bool) (scope candidates : List ℕ) → IsRising scope → IsRising candidates →
    Covers may scope candidates → Draws may scope candidates
drawn may scope candidates rs rc covers p only = filters_agree p scope candidates rs rc
    (λ n s h. covers n s (only n s h))
