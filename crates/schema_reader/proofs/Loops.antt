-- Chains of SUPs that never come back end.
use Rattle.std.proofs.Common.{ℕ, ◌+◌, ◌<◌, ◌≤◌, zero, suc, List, [], ◌∷◌, Bool, true, false, ◌&&◌, ◌||◌, Option, None, Some, ◌≡◌, ◌⊎◌, inl, inr, refl, ap, sym, subst, ◌∙◌, length, nat_eq, arith}
use Rattle.std.specs.List.{IsDistinct, AllByRecursion, list_any}
use Rattle.std.proofs.lemmas.Map.Keys.{IsDistinct-cons}
use Rattle.std.proofs.lemmas.Map.Steps.{length-le_from_distinct_below}
use Rattle.std.proofs.lemmas.Bool.{cases_lt}
use Rattle.std.proofs.lemmas.Bool.Decides.{nat_tests}
use Rattle.ldap_schema.specs.Schema.{TypeModel, led, if_led, superior_of, superiors, ends_within, are_loopless, IsLoopless}
use Rattle.schema_reader.specs.Reading.{is_type_looping}
use Rattle.ldap_schema.proofs.Chains.{none_past, empty_past}

pub false_true : false ≡ true → ⊥
false_true h = cc

pub none_some : {A : Type 0} {x : A} → None ≡ Some x → ⊥
none_some h = cc

pub or_left : (a b : Bool) → (a || b) ≡ false → a ≡ false
or_left true b h = absurd (cc)
or_left false b h = refl

pub or_right : (a b : Bool) → (a || b) ≡ false → b ≡ false
or_right true b h = absurd (cc)
or_right false b h = h

pub or_cases : {P : Type 0} (a b : Bool) → (a || b) ≡ true → (a ≡ true → P) → (b ≡ true → P) → P
or_cases true b h f g = f refl
or_cases false b h f g = g h

pub same_number : (a b : ℕ) → nat_eq a b ≡ true → a ≡ b
same_number a b h = grind (arith, nat_tests, h)

turned : (a b : ℕ) → nat_eq a b ≡ false → nat_eq b a ≡ false
turned a b h = grind (arith, nat_tests, h)

-- a type with a superior is one of the list
within_by : (ts : List TypeModel) (t u : ℕ) → superior_of ts t ≡ Some u → (t < length ts) ⊎ (length ts ≤ t) →
    t < length ts
within_by ts t u e (inl lt) = lt
within_by ts t u e (inr le) = absurd (none_some (sym (none_past ts t le) ∙ e))

pub within : (ts : List TypeModel) (t u : ℕ) → superior_of ts t ≡ Some u → t < length ts
within ts t u e = within_by ts t u e (cases_lt t (length ts))

-- a chain that goes on has a number for each step
len_by : (ts : List TypeModel) (k : ℕ) (o : Option ℕ) → ((u : ℕ) → ends_within k ts u ≡ false →
    length (superiors k ts u) ≡ k) → if_led o (λ u. ends_within k ts u) ≡ false →
    length (led o (λ u. superiors k ts u)) ≡ suc k
len_by ts k None f h = absurd (cc)
len_by ts k (Some u) f h = ap suc (f u h)

pub len : (ts : List TypeModel) (k t : ℕ) → ends_within k ts t ≡ false → length (superiors k ts t) ≡ k
len ts zero t h = refl
len ts (suc k) t h = len_by ts k (superior_of ts t) (λ u. len ts k u) h

-- and each of them is a type of the list
low_by : (ts : List TypeModel) (t : ℕ) (f : ℕ → Bool) (o : Option ℕ) → superior_of ts t ≡ o → if_led o f ≡ false →
    t < length ts
low_by ts t f None e h = absurd (cc)
low_by ts t f (Some u) e h = within ts t u e

at_low : (ts : List TypeModel) (t q : ℕ) → nat_eq q t ≡ true → t < length ts → q < length ts
at_low ts t q e lt = subst (λ (x : ℕ). x < length ts) (sym (same_number q t e)) lt

further_by : (ts : List TypeModel) (k q : ℕ) (o : Option ℕ) → ((u : ℕ) → ends_within k ts u ≡ false →
    list_any (nat_eq q) (u ∷ superiors k ts u) ≡ true → q < length ts) → if_led o (λ u. ends_within k ts u) ≡ false →
    list_any (nat_eq q) (led o (λ u. superiors k ts u)) ≡ true → q < length ts
further_by ts k q None f h m = absurd (false_true m)
further_by ts k q (Some u) f h m = f u h m

pub below : (ts : List TypeModel) (k t : ℕ) → ends_within k ts t ≡ false → (q : ℕ) →
    list_any (nat_eq q) (t ∷ superiors k ts t) ≡ true → q < length ts
below ts zero t h q m = or_cases (nat_eq q t) false m
    (λ e. at_low ts t q e (low_by ts t (λ u. false) (superior_of ts t) refl h)) (λ z. absurd (false_true z))
below ts (suc k) t h q m =
    or_cases (nat_eq q t) (list_any (nat_eq q) (superiors (suc k) ts t)) m
    (λ e. at_low ts t q e (low_by ts t (λ u. ends_within k ts u) (superior_of ts t) refl h))
    (λ n. further_by ts k q (superior_of ts t) (λ u g. below ts k u g q) h n)

-- what is not in a chain is not in a beginning of it
begun_by : (ts : List TypeModel) (p : ℕ → Bool) (k n : ℕ) (o : Option ℕ) →
    ((u : ℕ) → list_any p (superiors n ts u) ≡ false → list_any p (superiors k ts u) ≡ false) →
    list_any p (led o (λ u. superiors n ts u)) ≡ false → list_any p (led o (λ u. superiors k ts u)) ≡ false
begun_by ts p k n None f h = refl
begun_by ts p k n (Some u) f h = ap (λ (b : Bool). b || list_any p (superiors k ts u)) (or_left (p u) _ h)
    ∙ f u (or_right (p u) _ h)

pub begun : (ts : List TypeModel) (p : ℕ → Bool) (k n t : ℕ) → k ≤ n → list_any p (superiors n ts t) ≡ false →
    list_any p (superiors k ts t) ≡ false
begun ts p zero n t le h = refl
begun ts p (suc k) zero t le h = absurd (omega (arith, le))
begun ts p (suc k) (suc n) t le h = begun_by ts p k n (superior_of ts t) (λ u. begun ts p k n u (omega (arith, le))) h

-- a chain that never comes back has no number twice
pub apart : (t : ℕ) (us : List ℕ) → list_any (λ u. nat_eq u t) us ≡ false → AllByRecursion (λ y. nat_eq t y ≡ false) us
apart t [] h = tt
apart t (u ∷ us) h = (turned u t (or_left (nat_eq u t) _ h), apart t us (or_right (nat_eq u t) _ h))

pub one_distinct : (t : ℕ) → IsDistinct nat_eq (t ∷ [])
unfolding IsDistinct
one_distinct t = (tt, tt)

distinct_by : (ts : List TypeModel) (k t : ℕ) (o : Option ℕ) → list_any (λ u. nat_eq u t)
    (led o (λ u. superiors k ts u)) ≡ false → ((u : ℕ) → IsDistinct nat_eq (u ∷ superiors k ts u)) →
    IsDistinct nat_eq (t ∷ led o (λ u. superiors k ts u))
distinct_by ts k t None h f = one_distinct t
distinct_by ts k t (Some u) h f = IsDistinct-cons nat_eq t (u ∷ superiors k ts u) (apart t (u ∷ superiors k ts u) h)
    (f u)

distinct : (ts : List TypeModel) (n k t : ℕ) → ((u : ℕ) → list_any (λ x. nat_eq x u) (superiors n ts u) ≡ false) →
    k ≤ n → IsDistinct nat_eq (t ∷ superiors k ts t)
distinct ts n zero t none le = one_distinct t
distinct ts n (suc k) t none le =
    distinct_by ts k t (superior_of ts t) (begun ts (λ x. nat_eq x t) (suc k) n t le (none t))
    (λ u. distinct ts n k u none (omega (arith, le)))

-- more numbers than there are
too_many : (ts : List TypeModel) (t : ℕ) → ((u : ℕ) → list_any (λ x. nat_eq x u) (superiors (length ts) ts u) ≡
    false) → ends_within (length ts) ts t ≡ false → ⊥
too_many ts t none h =
    let l : length (superiors (length ts) ts t) ≡ length ts = len ts (length ts) t h in
    let m : length (t ∷ superiors (length ts) ts t) ≤ length ts = length-le_from_distinct_below
    (t ∷ superiors (length ts) ts t) (length ts) (distinct ts (length ts) (length ts) t none (omega arith))
    (below ts (length ts) t h) in
    omega (arith, l, m)

ends_by : (b : Bool) (ts : List TypeModel) (t : ℕ) →
    ((u : ℕ) → list_any (λ x. nat_eq x u) (superiors (length ts) ts u) ≡ false) → ends_within (length ts) ts t ≡ b →
    b ≡ true
ends_by true ts t none h = refl
ends_by false ts t none h = absurd (too_many ts t none h)

all_loopless : (ts xs : List TypeModel) (t : ℕ) → ((u : ℕ) → ends_within (length ts) ts u ≡ true) →
    are_loopless ts xs t ≡ true
all_loopless ts [] t f = refl
all_loopless ts (x ∷ xs) t f = ap (λ (b : Bool). b && are_loopless ts xs (t + 1)) (f t) ∙ all_loopless ts xs (t + 1) f

not_looping_by : (ts : List TypeModel) (u : ℕ) → ((t : ℕ) → t < length ts → is_type_looping ts t ≡ false) →
    (u < length ts) ⊎ (length ts ≤ u) → list_any (λ x. nat_eq x u) (superiors (length ts) ts u) ≡ false
not_looping_by ts u f (inl lt) = f u lt
not_looping_by ts u f (inr le) = ap (list_any (λ x. nat_eq x u)) (empty_past (length ts) ts u le)

-- where no type's SUP leads back to it, all chains of SUPs end
pub loopless_from : (ts : List TypeModel) → ((t : ℕ) → t < length ts → is_type_looping ts t ≡ false) → IsLoopless ts
loopless_from ts f =
    let none : (u : ℕ) → list_any (λ x. nat_eq x u) (superiors (length ts) ts u) ≡ false = λ u. not_looping_by ts u f
    (cases_lt u (length ts)) in
    all_loopless ts ts 0 (λ u. ends_by (ends_within (length ts) ts u) ts u none refl)
