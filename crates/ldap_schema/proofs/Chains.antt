-- The walk up the superior types against the chain of SUPs.
use Rattle.std.proofs.Common.{IsTrue, ◌↔◌, ℕ, ◌+◌, ◌≤◌, zero, suc, List, [], ◌∷◌, Bool, true, false, ◌&&◌, ◌||◌, Option, None, Some, ◌≡◌, refl, ap, sym, subst, ◌∙◌, length, nat_eq, arith}
use Rattle.std.specs.List.{list_any}
use Rattle.std.proofs.lemmas.Option.{slice_get_past}
use Rattle.std.proofs.lemmas.Bool.Decides.{nat_tests}
use Rattle.ldap_schema.specs.Schema.{TypeModel, SchemaModel, led, if_led, superior_in, superior_of, superiors, ends_within, are_loopless, is_under, IsUnder, is_itself, goes_up}

pub none_past : (ts : List TypeModel) (t : ℕ) → length ts ≤ t → superior_of ts t ≡ None
none_past ts t h = ap superior_in (slice_get_past ts t h)

pub empty_past : (k : ℕ) (ts : List TypeModel) (t : ℕ) → length ts ≤ t → superiors k ts t ≡ []
empty_past zero ts t h = refl
empty_past (suc k) ts t h = ap (λ (o : Option ℕ). led o (λ u. superiors k ts u)) (none_past ts t h)

pub ended_past : (k : ℕ) (ts : List TypeModel) (t : ℕ) → length ts ≤ t → ends_within k ts t ≡ true
ended_past zero ts t h = ap (λ (o : Option ℕ). if_led o (λ u. false)) (none_past ts t h)
ended_past (suc k) ts t h = ap (λ (o : Option ℕ). if_led o (λ u. ends_within k ts u)) (none_past ts t h)

pub and_one : (a b : Bool) → (a && b) ≡ true → a ≡ true
and_one true b h = refl
and_one false b h = h

pub and_two : (a b : Bool) → (a && b) ≡ true → b ≡ true
and_two true b h = h
and_two false b h = cc

ends_from : (ts xs : List TypeModel) (i t : ℕ) → are_loopless ts xs i ≡ true →
    ((u : ℕ) → length xs ≤ u → ends_within (length ts) ts (i + u) ≡ true) → ends_within (length ts) ts (i + t) ≡ true
ends_from ts [] i t h past = past t (omega arith)
ends_from ts (x ∷ xs) i zero h past = ap (ends_within (length ts) ts) (omega arith)
    ∙ and_one (ends_within (length ts) ts i) (are_loopless ts xs (i + 1)) h
ends_from ts (x ∷ xs) i (suc t) h past =
    ap (ends_within (length ts) ts) (omega arith)
    ∙ ends_from ts xs (i + 1) t (and_two (ends_within (length ts) ts i) (are_loopless ts xs (i + 1)) h)
    (λ u k. ap (ends_within (length ts) ts) (omega arith) ∙ past (suc u) (omega (arith, k)))

pub all_end : (ts : List TypeModel) (t : ℕ) → are_loopless ts ts 0 ≡ true → ends_within (length ts) ts t ≡ true
all_end ts t h =
    ap (ends_within (length ts) ts) (omega arith)
    ∙ ends_from ts ts 0 t h (λ u k. ended_past (length ts) ts (0 + u) (omega (arith, k)))

same_number : (a b : ℕ) → nat_eq a b ≡ true → a ≡ b
same_number a b h = grind (arith, nat_tests, h)

pub or_cases : {P : Type 0} (a b : Bool) → (a || b) ≡ true → (a ≡ true → P) → (b ≡ true → P) → P
or_cases true b h f g = f refl
or_cases false b h f g = g h

pub or_second : (a b : Bool) → b ≡ true → (a || b) ≡ true
or_second true b h = refl
or_second false b h = h

false_true : false ≡ true → ⊥
false_true h = cc

itself_or : (s : SchemaModel) (a b : ℕ) → nat_eq a b ≡ true → IsUnder s a b
itself_or s a b h = subst (λ (x : ℕ). IsUnder s a x) (same_number a b h) is_itself

along_step : (s : SchemaModel) (k a b : ℕ) → ((u : ℕ) → list_any (λ u. nat_eq u b) (superiors k s.types u) ≡ true →
    IsUnder s u b) → (o : Option ℕ) → superior_of s.types a ≡ o → list_any (λ u. nat_eq u b)
    (led o (λ u. superiors k s.types u)) ≡ true → IsUnder s a b
along_step s k a b further None e h = absurd (false_true h)
along_step s k a b further (Some u) e h =
    goes_up u e (or_cases (nat_eq u b) (list_any (λ u. nat_eq u b) (superiors k s.types u)) h (itself_or s u b)
    (further u))

along_chain : (s : SchemaModel) (k a b : ℕ) → list_any (λ u. nat_eq u b) (superiors k s.types a) ≡ true → IsUnder s a b
along_chain s zero a b h = absurd (false_true h)
along_chain s (suc k) a b h = along_step s k a b (λ u g. along_chain s k u b g) (superior_of s.types a) refl h

pub chain_from_walk : (s : SchemaModel) (a b : ℕ) → is_under s a b ≡ true → IsUnder s a b
chain_from_walk s a b h =
    or_cases (nat_eq a b) (list_any (λ u. nat_eq u b) (superiors (length s.types) s.types a)) h (itself_or s a b)
    (along_chain s (length s.types) a b)

no_step : (o : Option ℕ) (u : ℕ) → o ≡ Some u → if_led o (λ u. false) ≡ true → ⊥
no_step o u e h = let z : false ≡ true = rw e at h in cc

first_same : (a : ℕ) (b : Bool) → (nat_eq a a || b) ≡ true
first_same a b = grind (arith, nat_tests)

climbed : (s : SchemaModel) (a b k : ℕ) → IsUnder s a b → ends_within k s.types a ≡ true →
    (nat_eq a b || list_any (λ u. nat_eq u b) (superiors k s.types a)) ≡ true
climbed s a b k is_itself h = first_same a _
climbed s a b zero (goes_up u e rest) h = absurd (no_step (superior_of s.types a) u e h)
climbed s a b (suc k) (goes_up u e rest) h =
    or_second (nat_eq a b) _ (ap (λ (o : Option ℕ). list_any (λ u. nat_eq u b) (led o (λ u. superiors k s.types u))) e
    ∙ climbed s u b k rest (sym (ap (λ (o : Option ℕ). if_led o (λ u. ends_within k s.types u)) e) ∙ h))

pub walk_from_chain : (s : SchemaModel) (a b : ℕ) → are_loopless s.types s.types 0 ≡ true → IsUnder s a b →
    is_under s a b ≡ true
walk_from_chain s a b h u = climbed s a b (length s.types) u (all_end s.types a h)

pub under_same : (s : SchemaModel) (a b : ℕ) → true ≡ nat_eq a b → is_under s a b ≡ true
under_same s a b h = rw (sym h) refl

pub under_other : (types : List TypeModel) (a b : ℕ) (r : Bool) → false ≡ nat_eq a b → r ≡ list_any (λ t. nat_eq t b)
    (superiors (length types) types a)
    → r ≡ (nat_eq a b || list_any (λ u. nat_eq u b) (superiors (length types) types a))
under_other types a b r e rs = rs ∙ ap (λ (x : Bool). x || list_any (λ (u : ℕ). nat_eq u b)
    (superiors (length types) types a)) e

-- a test that says what the walk finds, as the chain
pub as_chain : (s : SchemaModel) (a b : ℕ) (r : Bool) → are_loopless s.types s.types 0 ≡ true → r ≡ is_under s a b →
    IsTrue r ↔ IsUnder s a b
as_chain s a b r h e = (λ t. chain_from_walk s a b (sym e ∙ t), λ u. e ∙ walk_from_chain s a b h u)
