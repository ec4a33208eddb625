-- The numbers of rising lists as one rising list.
use Rattle.std.proofs.Common.{◌≡◌, ℕ, ◌<◌, ◌≤◌, Bool, true, false, ◌||◌, List, [], ◌∷◌, ◌++◌, map, cond, nat_eq, refl, sym, ap, ap₂, subst, ◌∙◌, arith, Option, Some, None}
use Rattle.std.specs.Prelude.{nat_lt}
use Rattle.std.proofs.lemmas.Bool.{ltb-true, ltb-false, eqb-true, eqb-false, eq-eqb}
use Rattle.std.specs.List.{list_any, AllByRecursion}
use Rattle.dir_index.specs.Postings.{has_number, IsRising}
use Rattle.dir_index.specs.private.Postings.{AreRising}
use Rattle.search_plans.specs.Streams.{put, put_all, together}
use Rattle.search_plans.specs.private.Streams.{behind, begins_with, BeginsFrom, IsLeastHead, lesser}
use Rattle.search_plans.proofs.Rising.{all_above, rising_same}
use Rattle.search_plans.proofs.Searching.{or_late}

put_above : (b n : ℕ) (xs : List ℕ) → b < n → AllByRecursion (λ y. b < y) xs → AllByRecursion (λ y. b < y) (put n xs)
put_above b n [] lt h = (lt, tt)
put_above b n (x ∷ xs) lt h =
    elim (nat_lt n x) as (λ v. AllByRecursion (λ y. b < y)
    (cond v (n ∷ x ∷ xs) (cond (nat_eq n x) (x ∷ xs) (x ∷ put n xs)))) [
      | true ↦ (lt, h)
      | false ↦ elim (nat_eq n x) as (λ w. AllByRecursion (λ y. b < y) (cond w (x ∷ xs) (x ∷ put n xs))) [
        | true ↦ h
        | false ↦ (h.0, put_above b n xs lt h.1)
      ]
    ]

above_both : (n x : ℕ) → nat_lt n x ≡ false → nat_eq n x ≡ false → x < n
above_both n x l e =
    let le : x ≤ n = ltb-false n x l in
    let ne : n ≡ x → ⊥ = eqb-false n x e in
    omega arith

put_rising : (n : ℕ) (xs : List ℕ) → IsRising xs → IsRising (put n xs)
put_rising n [] h = (tt, tt)
put_rising n (x ∷ xs) h =
    (elim (nat_lt n x) as (λ v. nat_lt n x ≡ v →
    IsRising (cond v (n ∷ x ∷ xs) (cond (nat_eq n x) (x ∷ xs) (x ∷ put n xs)))) [
      | true ↦ λ e. let lt : n < x = ltb-true n x e in ((lt, all_above n x xs lt h.0), h)
      | false ↦ λ e. (elim (nat_eq n x) as (λ w. nat_eq n x ≡ w → IsRising (cond w (x ∷ xs) (x ∷ put n xs))) [
        | true ↦ λ d. h
        | false ↦ λ d. (put_above x n xs (above_both n x e d) h.0, put_rising n xs h.1)
      ]) refl
    ]) refl

put_all_rising : (xs ys : List ℕ) → IsRising ys → IsRising (put_all xs ys)
put_all_rising [] ys h = h
put_all_rising (x ∷ xs) ys h = put_rising x (put_all xs ys) (put_all_rising xs ys h)

pub together_rising : (ls : List (List ℕ)) → IsRising (together ls)
together_rising [] = tt
together_rising (xs ∷ ls) = put_all_rising xs (together ls) (together_rising ls)

or_again : (a b : Bool) → (a || (a || b)) ≡ (a || b)
or_again true b = refl
or_again false b = refl

or_swap : (a b c : Bool) → (a || (b || c)) ≡ (b || (a || c))
or_swap true true c = refl
or_swap true false c = refl
or_swap false b c = refl

has_put : (m n : ℕ) (xs : List ℕ) → has_number m (put n xs) ≡ (nat_eq m n || has_number m xs)
has_put m n [] = refl
has_put m n (x ∷ xs) =
    elim (nat_lt n x) as (λ v. has_number m (cond v (n ∷ x ∷ xs) (cond (nat_eq n x) (x ∷ xs) (x ∷ put n xs))) ≡
    (nat_eq m n || (nat_eq m x || has_number m xs))) [
      | true ↦ refl
      | false ↦ (elim (nat_eq n x) as (λ w. nat_eq n x ≡ w → has_number m (cond w (x ∷ xs) (x ∷ put n xs)) ≡
          (nat_eq m n || (nat_eq m x || has_number m xs))) [
            | true ↦ λ d.
                let same : n ≡ x = eqb-true n x d in
                sym (or_again (nat_eq m x) (has_number m xs))
                ∙ ap (λ (k : ℕ). nat_eq m k || (nat_eq m x || has_number m xs)) (sym same)
            | false ↦ λ d. ap (λ (b : Bool). nat_eq m x || b) (has_put m n xs) ∙ or_swap (nat_eq m x) (nat_eq m n)
                (has_number m xs)
          ]) refl
    ]

or_more : (a b c : Bool) → (a || b || c) ≡ (a || (b || c))
or_more true b c = refl
or_more false b c = refl

has_put_all : (m : ℕ) (xs ys : List ℕ) → has_number m (put_all xs ys) ≡ (has_number m xs || has_number m ys)
has_put_all m [] ys = refl
has_put_all m (x ∷ xs) ys =
    has_put m x (put_all xs ys) ∙ ap (λ (b : Bool). nat_eq m x || b) (has_put_all m xs ys)
    ∙ sym (or_more (nat_eq m x) (has_number m xs) (has_number m ys))

-- a number is among the lists together, where it is in one of them
pub has_together : (m : ℕ) (ls : List (List ℕ)) → has_number m (together ls) ≡ list_any (has_number m) ls
has_together m [] = refl
has_together m (xs ∷ ls) = has_put_all m xs (together ls) ∙ ap (λ (b : Bool). has_number m xs || b) (has_together m ls)

behind_rising : (n : ℕ) (xs : List ℕ) → IsRising xs → IsRising (behind n xs)
behind_rising n [] h = h
behind_rising n (x ∷ xs) h = elim (nat_eq x n) as (λ v. IsRising (cond v xs (x ∷ xs))) [ true ↦ h.1 | false ↦ h ]

pub behind_all_rising : (n : ℕ) (ls : List (List ℕ)) → AreRising ls → AreRising (map (behind n) ls)
behind_all_rising n [] h = tt
behind_all_rising n (xs ∷ ls) h = (behind_rising n xs h.0, behind_all_rising n ls h.1)

-- what a rising list has that begins from a number is that number, or it stands behind it
has_behind : (m n : ℕ) (xs : List ℕ) → (nat_eq m n || has_number m xs) ≡ (nat_eq m n || has_number m (behind n xs))
has_behind m n [] = refl
has_behind m n (x ∷ xs) =
    (elim (nat_eq x n) as (λ v. nat_eq x n ≡ v → (nat_eq m n || (nat_eq m x || has_number m xs)) ≡
    (nat_eq m n || has_number m (cond v xs (x ∷ xs)))) [
      | true ↦ λ e.
          let same : x ≡ n = eqb-true x n e in
          ap (λ (k : ℕ). nat_eq m n || (nat_eq m k || has_number m xs)) same ∙ or_again (nat_eq m n) (has_number m xs)
      | false ↦ λ e. refl
    ]) refl

or_part : (a b c b' c' : Bool) → (a || b) ≡ (a || b') → (a || c) ≡ (a || c') → (a || (b || c)) ≡ (a || (b' || c'))
or_part true b c b' c' h k = refl
or_part false b c b' c' h k = ap₂ (λ (x y : Bool). x || y) h k

any_behind : (m n : ℕ) (ls : List (List ℕ)) → (nat_eq m n || list_any (has_number m) ls) ≡
    (nat_eq m n || list_any (has_number m) (map (behind n) ls))
any_behind m n [] = refl
any_behind m n (xs ∷ ls) = or_part (nat_eq m n) _ _ _ _ (has_behind m n xs) (any_behind m n ls)

-- what stands behind a number that a rising list begins from is above it
above_behind : (n : ℕ) (xs : List ℕ) → IsRising xs → BeginsFrom n xs → AllByRecursion (λ y. n < y) (behind n xs)
above_behind n [] r from = tt
above_behind n (x ∷ xs) r from =
    (elim (nat_eq x n) as (λ v. nat_eq x n ≡ v → AllByRecursion (λ y. n < y) (cond v xs (x ∷ xs))) [
      | true ↦ λ e. subst (λ (k : ℕ). AllByRecursion (λ y. k < y) xs) (eqb-true x n e) r.0
      | false ↦ λ e.
          let le : n ≤ x = from in
          let ne : x ≡ n → ⊥ = eqb-false x n e in
          let lt : n < x = omega arith in
          (lt, all_above n x xs lt r.0)
    ]) refl

put_all_above : (b : ℕ) (xs ys : List ℕ) → AllByRecursion (λ y. b < y) xs → AllByRecursion (λ y. b < y) ys →
    AllByRecursion (λ y. b < y) (put_all xs ys)
put_all_above b [] ys h k = k
put_all_above b (x ∷ xs) ys h k = put_above b x (put_all xs ys) h.0 (put_all_above b xs ys h.1 k)

all_above_behind : (n : ℕ) (ls : List (List ℕ)) → AreRising ls → AllByRecursion (BeginsFrom n) ls →
    AllByRecursion (λ y. n < y) (together (map (behind n) ls))
all_above_behind n [] r from = tt
all_above_behind n (xs ∷ ls) r from =
    put_all_above n (behind n xs) (together (map (behind n) ls)) (above_behind n xs r.0 from.0)
    (all_above_behind n ls r.1 from.1)

pub or_true : (a b : Bool) → a ≡ true → (a || b) ≡ true
or_true true b h = refl
or_true false b h = cc

or_none : (b : Bool) → b ≡ (b || false)
or_none true = refl
or_none false = refl

begins_has : (n : ℕ) (xs : List ℕ) → begins_with n xs ≡ true → has_number n xs ≡ true
begins_has n [] h = h
begins_has n (x ∷ xs) h = or_true _ _ h

any_begins : (n : ℕ) (ls : List (List ℕ)) → list_any (begins_with n) ls ≡ true → list_any (has_number n) ls ≡ true
any_begins n [] h = h
any_begins n (xs ∷ ls) h =
    (elim (begins_with n xs) as (λ v. begins_with n xs ≡ v → (v || list_any (begins_with n) ls) ≡ true →
    (has_number n xs || list_any (has_number n) ls) ≡ true) [
      | true ↦ λ e k. or_true _ _ (begins_has n xs e)
      | false ↦ λ e k. or_late (has_number n xs) _ (any_begins n ls k)
    ]) refl h

has_itself : (m n : ℕ) (b : Bool) → (m ≡ n → b ≡ true) → b ≡ (nat_eq m n || b)
has_itself m n b h =
    (elim (nat_eq m n) as (λ v. nat_eq m n ≡ v → b ≡ (v || b)) [
      | true ↦ λ e. h (eqb-true m n e)
      | false ↦ λ e. refl
    ]) refl

-- The least head, and then what is left behind it, are the lists together.
pub next_is : (n : ℕ) (ls : List (List ℕ)) → AreRising ls → IsLeastHead (Some n) ls → together ls ≡ n ∷ together
    (map (behind n) ls)
next_is n ls rising least =
    rising_same (together ls) (n ∷ together (map (behind n) ls)) (together_rising ls)
    (all_above_behind n ls rising least.1, together_rising (map (behind n) ls))
    (λ m.
    has_together m ls
    ∙ has_itself m n (list_any (has_number m) ls) (λ same. subst (λ (k : ℕ). list_any (has_number k) ls ≡ true)
    (sym same) (any_begins n ls least.0))
    ∙ any_behind m n ls
    ∙ ap (λ (b : Bool). nat_eq m n || b) (sym (has_together m (map (behind n) ls))))

pub none_left : (ls : List (List ℕ)) → IsLeastHead None ls → together ls ≡ []
none_left [] h = refl
none_left (xs ∷ ls) h = ap (λ (ys : List ℕ). put_all ys (together ls)) h.0 ∙ none_left ls h.1

-- one more list
all_push : {X : Type 0} (P : X → Type 0) (xs : List X) (x : X) → AllByRecursion P xs → P x →
    AllByRecursion P (xs ++ x ∷ [])
all_push P [] x h p = (p, tt)
all_push P (y ∷ xs) x h p = (h.0, all_push P xs x h.1 p)

any_push : {X : Type 0} (p : X → Bool) (xs : List X) (x : X) → list_any p (xs ++ x ∷ []) ≡ (list_any p xs || p x)
any_push p [] x = sym (or_none (p x))
any_push p (y ∷ xs) x = ap (λ (b : Bool). p y || b) (any_push p xs x) ∙ sym (or_more (p y) (list_any p xs) (p x))

from_lower : (n x : ℕ) (ls : List (List ℕ)) → x < n → AllByRecursion (BeginsFrom n) ls → AllByRecursion (BeginsFrom x)
    ls
from_lower n x [] lt h = tt
from_lower n x ([] ∷ ls) lt h = (tt, from_lower n x ls lt h.1)
from_lower n x ((y ∷ ys) ∷ ls) lt h = (let le : n ≤ y = h.0 in omega arith, from_lower n x ls lt h.1)

from_empty : (x : ℕ) (ls : List (List ℕ)) → AllByRecursion (λ xs. xs ≡ []) ls → AllByRecursion (BeginsFrom x) ls
from_empty x [] h = tt
from_empty x (xs ∷ ls) h = (subst (BeginsFrom x) (sym h.0) tt, from_empty x ls h.1)

pub least_push : (best : Option ℕ) (ls : List (List ℕ)) (xs : List ℕ) → IsLeastHead best ls →
    IsLeastHead (lesser best xs) (ls ++ xs ∷ [])
least_push None ls [] h = all_push (λ ys. ys ≡ []) ls [] h refl
least_push (Some n) ls [] h = (any_push (begins_with n) ls [] ∙ or_true _ _ h.0, all_push (BeginsFrom n) ls [] h.1 tt)
least_push None ls (x ∷ xs) h = (
  any_push (begins_with x) ls (x ∷ xs) ∙ or_late _ _ (eq-eqb x x refl),
  all_push (BeginsFrom
      x) ls (x ∷ xs) (from_empty x ls h) (omega arith),
)
least_push (Some n) ls (x ∷ xs) h =
    (elim (nat_lt x n) as (λ v. nat_lt x n ≡ v → IsLeastHead (cond v (Some x) (Some n)) (ls ++ (x ∷ xs) ∷ [])) [
      | true ↦ λ e. (
        any_push (begins_with x) ls (x ∷ xs) ∙ or_late _ _ (eq-eqb x x refl),
        all_push (BeginsFrom
            x) ls (x ∷ xs) (from_lower n x ls (ltb-true x n e) h.1) (omega arith),
      )
      | false ↦ λ e. (
        any_push (begins_with n) ls (x ∷ xs) ∙ or_true _ _ h.0,
        all_push (BeginsFrom
            n) ls (x ∷ xs) h.1 (ltb-false x n e),
      )
    ]) refl

or_nothing : (b : Bool) → (b || false) ≡ b
or_nothing true = refl
or_nothing false = refl

-- one list together is itself
pub together_one : (xs : List ℕ) → IsRising xs → together (xs ∷ []) ≡ xs
together_one xs r = rising_same (together (xs ∷ [])) xs (together_rising (xs ∷ [])) r (λ m. has_together m (xs ∷ [])
    ∙ or_nothing (has_number m xs))
