-- Numbers that are sorted, and then lose their repeats.
use Rattle.std.proofs.Common.{◌≡◌, ℕ, ◌<◌, Bool, true, false, List, [], ◌∷◌, refl, sym, subst, eqb, eqb-true}
use Rattle.std.specs.List.{dedup, AllByRecursion, Contains}
use Rattle.std.specs.List.Retain.{IsFiltered, DiffersFromLast}
use Rattle.std.specs.List.Sorted.{IsPermutation, IsSorted, IsStrictlySortedBy}
use Rattle.std.specs.Ordering.{nat_cmp}
use Rattle.std.specs.declared.cmp.Ordering.TheVariants.{Less}
use Rattle.std.proofs.lemmas.List.Filters.{dedup_is}
use Rattle.std.proofs.lemmas.List.Kept.{Contains-dedup_nat, Contains-from_dedup, IsStrictlySortedBy-dedup}
use Rattle.std.proofs.lemmas.List.Sorted.{Contains-permutation, IsPermutation-sym}
use Rattle.std.proofs.lemmas.Map.Views.{list_any-from_Contains, Contains-from_any}
use Rattle.dir_index.specs.Postings.{has_number, IsRising}
use Rattle.std.specs.Cmp.{ranked, unsigned_ties}
use Rattle.std.proofs.lemmas.Cmp.{nat_cmp_total, nat_eq_equiv}

all_less : (x : ℕ) (ys : List ℕ) → AllByRecursion (λ y. nat_cmp x y ≡ Less) ys → AllByRecursion (λ y. x < y) ys
all_less x [] h = tt
all_less x (y ∷ ys) h = (ranked x y Less (sym h.0), all_less x ys h.1)

rising_of : (xs : List ℕ) → IsStrictlySortedBy nat_cmp xs → IsRising xs
unfolding IsStrictlySortedBy
rising_of [] h = tt
rising_of (x ∷ xs) h = (all_less x xs h.0, rising_of xs h.1)

-- sorted numbers without repeats rise
pub sorted_rising : (xs ys : List ℕ) → IsSorted nat_cmp xs → IsFiltered (DiffersFromLast eqb) [] xs ys → IsRising ys
sorted_rising xs ys sorted kept = rw (dedup_is eqb xs ys kept)
    (rising_of (dedup eqb xs) (IsStrictlySortedBy-dedup nat_cmp_total unsigned_ties xs sorted))

both_ways : (a b : Bool) → (a ≡ true → b ≡ true) → (b ≡ true → a ≡ true) → a ≡ b
both_ways true true f g = refl
both_ways true false f g = sym (f refl)
both_ways false true f g = g refl
both_ways false false f g = refl

has_of : (xs : List ℕ) (n : ℕ) → Contains xs n → has_number n xs ≡ true
has_of xs n h = list_any-from_Contains nat_eq_equiv n xs h

of_has : (xs : List ℕ) (n : ℕ) → has_number n xs ≡ true → Contains xs n
of_has xs n h = Contains-from_any (λ x y e. eqb-true x y e) n xs h

-- and they are the same numbers
pub sorted_has : (xs ys zs : List ℕ) (n : ℕ) → IsPermutation xs ys → IsFiltered (DiffersFromLast eqb) [] ys zs →
    has_number n zs ≡ has_number n xs
sorted_has xs ys zs n moved kept =
    let is : zs ≡ dedup eqb ys = dedup_is eqb ys zs kept in
    both_ways _ _
    (λ h. has_of xs n (Contains-permutation ys xs n (IsPermutation-sym xs ys moved)
    (Contains-from_dedup eqb ys n (subst (λ (l : List ℕ). Contains l n) is (of_has zs n h)))))
    (λ h. has_of zs n (subst (λ (l : List ℕ). Contains l n) (sym is)
    (Contains-dedup_nat ys n (Contains-permutation xs ys n moved (of_has xs n h)))))
