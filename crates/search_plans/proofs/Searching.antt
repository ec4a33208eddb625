-- A binary search of a rising list tells whether a number is there.
use Rattle.std.proofs.Common.{◌≡◌, ℕ, zero, suc, ◌<◌, ◌≤◌, Bool, true, false, ◌||◌, List, [], ◌∷◌, length, get_or, refl, sym, ap, arith, Result, Ok, Err, inl, inr}
use Rattle.std.proofs.lemmas.Bool.{eq-eqb, ne_eqb, cases_lt}
use Rattle.std.proofs.lemmas.List.Sorted.{searched}
use Rattle.std.specs.List.{AllByRecursion}
use Rattle.std.specs.List.Sorted.{IsBinarySearchResult}
use Rattle.std.specs.Ordering.{nat_cmp}
use Rattle.dir_index.specs.Postings.{has_number, IsRising}

all_at : (P : ℕ → Type 0) (xs : List ℕ) (i : ℕ) → AllByRecursion P xs → i < length xs → P (get_or xs i 0)
all_at P [] i h lt = absurd (omega arith)
all_at P (x ∷ xs) zero h lt = h.0
all_at P (x ∷ xs) (suc i) h lt = all_at P xs i h.1 (omega arith)

rising_at : (xs : List ℕ) → IsRising xs → (i j : ℕ) → i ≤ j → j < length xs → get_or xs i 0 ≤ get_or xs j 0
rising_at [] h i j le lt = absurd (omega arith)
rising_at (x ∷ xs) h zero zero le lt = omega arith
rising_at (x ∷ xs) h zero (suc j) le lt = let below : x < get_or xs j 0 = all_at (λ y. x < y) xs j h.0 (omega arith)
    in omega arith
rising_at (x ∷ xs) h (suc i) zero le lt = absurd (omega arith)
rising_at (x ∷ xs) h (suc i) (suc j) le lt = rising_at xs h.1 i j (omega arith) (omega arith)

pub or_late : (a b : Bool) → b ≡ true → (a || b) ≡ true
or_late true b h = refl
or_late false b h = h

has_at : (n : ℕ) (xs : List ℕ) (i : ℕ) → i < length xs → get_or xs i 0 ≡ n → has_number n xs ≡ true
has_at n [] i lt is = absurd (omega arith)
has_at n (x ∷ xs) zero lt is = ap (λ (b : Bool). b || has_number n xs) (eq-eqb n x (sym is))
has_at n (x ∷ xs) (suc i) lt is = or_late _ _ (has_at n xs i (omega arith) is)

pub both_false : (a b : Bool) → a ≡ false → b ≡ false → (a || b) ≡ false
both_false true b h k = cc
both_false false b h k = k

has_nowhere : (n : ℕ) (xs : List ℕ) → ((k : ℕ) → k < length xs → get_or xs k 0 ≡ n → ⊥) → has_number n xs ≡ false
has_nowhere n [] h = refl
has_nowhere n (x ∷ xs) h =
    both_false _ _ (ne_eqb n x (λ e. h 0 (omega arith) (sym e)))
    (has_nowhere n xs (λ k lt is. h (suc k) (omega arith) is))

abbrev pub found_of : Result ℕ ℕ → Bool
found_of (Ok i) = true
found_of (Err i) = false

pub search_tells : (xs : List ℕ) (n : ℕ) (r : Result ℕ ℕ) → IsRising xs → IsBinarySearchResult (λ y. nat_cmp y n) xs
    r → found_of r ≡ has_number n xs
search_tells xs n (Ok i) h is =
    let at = searched xs n (Ok i) is (rising_at xs h) in
    sym (has_at n xs i at.0 at.1)
search_tells xs n (Err i) h is =
    let at = searched xs n (Err i) is (rising_at xs h) in
    sym (has_nowhere n xs (λ k lt same. elim (cases_lt k i) [
      | inl below ↦ let e : get_or xs k 0 < n = at.1 k below in omega arith
      | inr above ↦ let e : n < get_or xs k 0 = at.2 k above lt in omega arith
    ]))
