-- What holds of each element that a loop has passed.
use Rattle.std.proofs.Common.{◌≡◌, ◌<◌, ◌≤◌, ◌+◌, ℕ, zero, suc, List, [], ◌∷◌, ◌++◌, length, map, take, get_or, false, ◌==◌, true≢false, true, refl, arith, sym, ap, ◌∙◌, subst}
use Rattle.std.specs.List.{AllByRecursion}
use Rattle.std.proofs.lemmas.Bool.{eqb-true}
use Rattle.std.proofs.lemmas.List.{map_more, take_all}

all_snoc : {X : Type 0} (P : X → Type 0) (xs : List X) (x : X) → AllByRecursion P xs → P x →
    AllByRecursion P (xs ++ x ∷ [])
all_snoc P [] x h p = (p, tt)
all_snoc P (y ∷ ys) x h p = (h.0, all_snoc P ys x h.1 p)

-- one element more
pub all_more : {X Y : Type 0} (P : Y → Type 0) (f : X → Y) (xs : List X) (i : ℕ) (d : X) → i < length xs →
    AllByRecursion P (map f (take i xs)) → P (f (get_or xs i d)) → AllByRecursion P (map f (take (i + 1) xs))
all_more {X} {Y} P f xs i d lt h p = subst (λ (l : List Y). AllByRecursion P l) (sym (map_more f xs i d lt))
    (all_snoc P (map f (take i xs)) (f (get_or xs i d)) h p)

-- all of them
pub all_done : {X Y : Type 0} (P : Y → Type 0) (f : X → Y) (xs : List X) (i : ℕ) → length xs ≤ i →
    AllByRecursion P (map f (take i xs)) → AllByRecursion P (map f xs)
all_done {X} P f xs i le h = subst (λ (l : List X). AllByRecursion P (map f l)) (take_all i xs le) h

-- the same, of the element as it was read
pub all_more_at : {X Y : Type 0} (P : Y → Type 0) (f : X → Y) (xs : List X) (i : ℕ) (d : X) → i < length xs →
    d ≡ get_or xs i d → AllByRecursion P (map f (take i xs)) → P (f d) → AllByRecursion P (map f (take (i + 1) xs))
all_more_at {X} P f xs i d lt is h p = all_more P f xs i d lt h (subst (λ (x : X). P (f x)) is p)

-- one of them
pub all_at : {X Y : Type 0} (P : Y → Type 0) (f : X → Y) (xs : List X) (i : ℕ) (d : X) → i < length xs →
    d ≡ get_or xs i d → AllByRecursion P (map f xs) → P (f d)
all_at P f [] i d lt is h = absurd (omega (arith, lt))
all_at {X} P f (x ∷ xs) zero d lt is h = subst (λ (z : X). P (f z)) (sym is) h.0
all_at P f (x ∷ xs) (suc i) d lt is h = all_at P f xs i d (omega (arith, lt)) is h.1

-- a list that isn't empty isn't so as it is seen
pub some_value : {X Y : Type 0} (f : X → Y) (xs ys : List X) → ys ≡ xs → (length ys == 0) ≡ false → map f xs ≡ [] → ⊥
some_value {X} f xs ys e h = some_of xs (ap (λ (l : List X). length l == 0) (sym e) ∙ h)
  where
    some_of : (zs : List X) → (length zs == 0) ≡ false → map f zs ≡ [] → ⊥
    some_of [] t k = true≢false t
    some_of (z ∷ zs) t k = cc

-- a list that is empty is so as it is seen
pub no_value : {X Y : Type 0} (f : X → Y) (xs ys : List X) → ys ≡ xs → (length ys == 0) ≡ true → map f xs ≡ []
no_value {X} f xs ys e h = none_of xs (ap (λ (l : List X). length l == 0) (sym e) ∙ h)
  where
    none_of : (zs : List X) → (length zs == 0) ≡ true → map f zs ≡ []
    none_of [] t = refl
    none_of (z ∷ zs) t = let none = eqb-true (suc (length zs)) 0 t in absurd (omega (arith, none))
