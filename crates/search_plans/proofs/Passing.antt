-- One candidate of a run is passed.
use Rattle.std.proofs.Common.{◌≡◌, ℕ, zero, suc, ◌+◌, ◌^◌, ◌<◌, ◌≤◌, Bool, true, false, ◌&&◌, not, List, [], ◌∷◌, ◌++◌, length, take, drop, cond, nat_eq, refl, sym, ap, ap₂, subst, ◌∙◌, arith, append_assoc, add-one}
use Rattle.std.specs.Prelude.{filter, nat_le}
use Rattle.std.specs.List.{AllByRecursion}
use Rattle.std.proofs.lemmas.Bool.{le-leb}
use Rattle.std.proofs.lemmas.Bool.Decides.{nat_tests}
use Rattle.dir_index.specs.ldap_match.declared.truth.Truth.{Truth}
use Rattle.dir_index.specs.Postings.{has_number, IsRising}
use Rattle.search_plans.specs.Sets.{Guides}
use Rattle.search_plans.specs.Runs.{is_true, is_open, is_wanted}
use Rattle.search_plans.specs.private.Runs.{is_asked, AreInside, AreSameWithin, IsGuided, IsUnderWay}
use Rattle.search_plans.specs.private.Sets.{AreSameFrom}
use Rattle.search_plans.proofs.Rising.{has_head, has_above}
use Rattle.search_plans.proofs.Searching.{or_late}

pub filter_yes : (p : ℕ → Bool) (x : ℕ) (xs : List ℕ) → p x ≡ true → filter p (x ∷ xs) ≡ x ∷ filter p xs
filter_yes p x xs h = ap (λ (b : Bool). cond b (x ∷ filter p xs) (filter p xs)) h

pub filter_no : (p : ℕ → Bool) (x : ℕ) (xs : List ℕ) → p x ≡ false → filter p (x ∷ xs) ≡ filter p xs
filter_no p x xs h = ap (λ (b : Bool). cond b (x ∷ filter p xs) (filter p xs)) h

pub filter_same : (p q : ℕ → Bool) → ((n : ℕ) → p n ≡ q n) → (xs : List ℕ) → filter p xs ≡ filter q xs
filter_same p q h [] = refl
filter_same p q h (x ∷ xs) =
    ap (λ (b : Bool). cond b (x ∷ filter p xs) (filter p xs)) (h x) ∙ ap (λ (ys : List ℕ). cond (q x) (x ∷ ys) ys)
    (filter_same p q h xs)

-- a list that is cut where it has a number, cut behind it
pub record IsCut (u : List ℕ) (t h : ℕ) (r : List ℕ) : Type 0 where
  pub front : take (suc t) u ≡ take t u ++ h ∷ []
  pub back : drop (suc t) u ≡ r
  pub within : suc t ≤ length u

cut : (u : List ℕ) (t h : ℕ) (r : List ℕ) → drop t u ≡ h ∷ r → IsCut u t h r
cut [] zero h r e = cc
cut [] (suc t) h r e = cc
cut (x ∷ u) zero h r e =
    let head : x ≡ h = cc in
    let tail : u ≡ r = cc in
    record { front = ap (λ (y : ℕ). y ∷ []) head; back = tail; within = omega arith }
cut (x ∷ u) (suc t) h r e =
    let c = cut u t h r e in
    let w : suc t ≤ length u = c.within in
    record { front = ap (λ (y : List ℕ). x ∷ y) c.front; back = c.back; within = omega arith }

all_without : (P : ℕ → Type 0) (xs ys : List ℕ) (h : ℕ) → AllByRecursion P (xs ++ h ∷ ys) → AllByRecursion P (xs ++ ys)
all_without P [] ys h a = a.1
all_without P (x ∷ xs) ys h a = (a.0, all_without P xs ys h a.1)

rising_without : (xs ys : List ℕ) (h : ℕ) → IsRising (xs ++ h ∷ ys) → IsRising (xs ++ ys)
rising_without [] ys h r = r.1
rising_without (x ∷ xs) ys h r = (all_without (λ y. x < y) xs ys h r.0, rising_without xs ys h r.1)

all_at_middle : (P : ℕ → Type 0) (xs ys : List ℕ) (h : ℕ) → AllByRecursion P (xs ++ h ∷ ys) → P h
all_at_middle P [] ys h a = a.0
all_at_middle P (x ∷ xs) ys h a = all_at_middle P xs ys h a.1

-- what stands before a number in a rising list is at most that number
all_up_to : (xs ys : List ℕ) (h : ℕ) → IsRising (xs ++ h ∷ ys) → AllByRecursion (λ y. y ≤ h) xs
all_up_to [] ys h r = tt
all_up_to (x ∷ xs) ys h r =
    (let lt : x < h = all_at_middle (λ y. x < y) xs ys h r.0 in omega arith, all_up_to xs ys h r.1)

all_push : (P : ℕ → Type 0) (xs : List ℕ) (x : ℕ) → AllByRecursion P xs → P x → AllByRecursion P (xs ++ x ∷ [])
all_push P [] x h p = (p, tt)
all_push P (y ∷ xs) x h p = (h.0, all_push P xs x h.1 p)

-- what stands behind a number in a rising list is above it
all_behind : (xs ys : List ℕ) (h : ℕ) → IsRising (xs ++ h ∷ ys) → AllByRecursion (λ y. h < y) ys
all_behind [] ys h r = r.0
all_behind (x ∷ xs) ys h r = all_behind xs ys h r.1

-- what holds of numbers holds of those that are asked for
all_asked : (P : ℕ → Type 0) (p : ℕ → Bool) (ys : List ℕ) → AllByRecursion P ys → AllByRecursion P (filter p ys)
all_asked P p [] a = tt
all_asked P p (y ∷ ys) a =
    elim (p y) as (λ v. AllByRecursion P (cond v (y ∷ filter p ys) (filter p ys)))
    [ true ↦ (a.0, all_asked P p ys a.1) | false ↦ all_asked P p ys a.1 ]

none_up_to : (u : List ℕ) (h : ℕ) → AllByRecursion (λ y. h < y) u → length (filter (λ n. nat_le n h) u) ≡ 0
none_up_to [] h a = refl
none_up_to (x ∷ u) h a =
    let above : h < x = a.0 in
    let not_it : nat_le x h ≡ false = grind (arith, nat_tests) in
    ap length (filter_no (λ n. nat_le n h) x u not_it) ∙ none_up_to u h a.1

-- the numbers at the front that pass are counted, and those behind do not pass
count_front : (u : List ℕ) (t h : ℕ) → t ≤ length u → AllByRecursion (λ y. y ≤ h) (take t u) →
    AllByRecursion (λ y. h < y) (drop t u) → t ≡ length (filter (λ n. nat_le n h) u)
count_front u zero h w a b = sym (none_up_to u h b)
count_front [] (suc t) h w a b = absurd (omega arith)
count_front (x ∷ u) (suc t) h w a b =
    let first : nat_le x h ≡ true = le-leb x h a.0 in
    let more : t ≡ length (filter (λ n. nat_le n h) u) = count_front u t h (omega arith) a.1 b in
    ap (λ (k : ℕ). suc k) more ∙ sym (ap length (filter_yes (λ n. nat_le n h) x u first))

-- nothing is left of a list that is dropped whole
pub all_counted : (u : List ℕ) (t : ℕ) → t ≤ length u → drop t u ≡ [] → t ≡ length u
all_counted [] zero w e = refl
all_counted [] (suc t) w e = absurd (omega arith)
all_counted (x ∷ u) zero w e = absurd (cc e)
all_counted (x ∷ u) (suc t) w e = ap (λ (k : ℕ). suc k) (all_counted u t (omega arith) e)

guides_same : (must may : ℕ → Bool) (value value' : ℕ → Truth) (scope : List ℕ) → ((n : ℕ) → value' n ≡ value n) →
    Guides must value may scope → Guides must value' may scope
guides_same must may value value' scope same g = record {
  sound = λ n s h. same n ∙ g.sound n s h;
  complete = λ n s h. g.complete n s (sym (same n) ∙ h);
}

-- what holds once a candidate is passed, by whether its value was asked for
pub record IsPassed (must may : ℕ → Bool) (scope rest : List ℕ) (h t t' : ℕ) : Type 0 where
  pub left : drop t' (filter (is_open must may) scope) ≡ filter (is_asked must may scope) rest
  pub rises : IsRising (take t' (filter (is_open must may) scope) ++ rest)
  pub within : t' ≤ length (filter (is_open must may) scope)
  pub asked : t' ≡ length (filter (λ n. nat_le n h) (filter (is_open must may) scope))

asked : (must may : ℕ → Bool) (scope rest : List ℕ) (h t : ℕ) → drop t (filter (is_open must may) scope) ≡
    filter (is_asked must may scope) (h ∷ rest)
    → IsRising (take t (filter (is_open must may) scope) ++ h ∷ rest) → is_asked must may scope h ≡ true →
    IsPassed must may scope rest h t (suc t)
asked must may scope rest h t left rises holds =
    let u = filter (is_open must may) scope in
    let c : IsCut u t h (filter (is_asked must may scope) rest) = cut u t h (filter (is_asked must may scope) rest)
    (left ∙ filter_yes (is_asked must may scope) h rest holds) in
    record {
      left = c.back;
      rises = subst IsRising (sym (append_assoc (take t u) (h ∷ []) rest) ∙ ap (λ (xs : List ℕ). xs ++ rest)
          (sym c.front)) rises;
      within = c.within;
      asked = count_front u (suc t) h c.within (subst (λ (xs : List ℕ). AllByRecursion (λ y. y ≤ h) xs) (sym c.front)
          (all_push (λ y. y ≤ h) (take t u) h (all_up_to (take t u) rest h rises) (omega arith)))
          (subst (λ (xs : List ℕ). AllByRecursion (λ y. h < y) xs) (sym c.back)
          (all_asked (λ y. h < y) (is_asked must may scope) rest (all_behind (take t u) rest h rises)));
    }

not_asked : (must may : ℕ → Bool) (scope rest : List ℕ) (h t : ℕ) → drop t (filter (is_open must may) scope) ≡
    filter (is_asked must may scope) (h ∷ rest)
    → IsRising (take t (filter (is_open must may) scope) ++ h ∷ rest) → t ≤ length (filter (is_open must may) scope) →
    is_asked must may scope h ≡ false → IsPassed must may scope rest h t t
not_asked must may scope rest h t left rises within fails =
    let u = filter (is_open must may) scope in
    let back = left ∙ filter_no (is_asked must may scope) h rest fails in
    record {
      left = back;
      rises = rising_without (take t u) rest h rises;
      within = within;
      asked = count_front u t h within (all_up_to (take t u) rest h rises)
          (subst (λ (xs : List ℕ). AllByRecursion (λ y. h < y) xs) (sym back)
          (all_asked (λ y. h < y) (is_asked must may scope) rest (all_behind (take t u) rest h rises)));
    }

-- what a run keeps when it passes a candidate
pub record IsStep (must may : ℕ → Bool) (value : ℕ → Truth) (scope rest : List ℕ) (h t' l' : ℕ) : Type 0 where
  pub under_way : IsUnderWay must may value scope rest t' l'
  pub asked : t' ≡ length (filter (λ n. nat_le n h) (filter (is_open must may) scope))

step_of : (must may : ℕ → Bool) (value value' : ℕ → Truth) (scope rest : List ℕ) (h t l t' l' : ℕ) →
    IsUnderWay must may value scope (h ∷ rest) t l → ((n : ℕ) → value' n ≡ value n)
    → IsPassed must may scope rest h t t' → l' + t ≡ l + t' → IsStep must may value' scope rest h t' l'
step_of must may value value' scope rest h t l t' l' w same p even =
    let room : l + length (filter (is_open must may) scope) < 2 ^ 64 + t = w.room in
    record {
      under_way = record {
        scope_rises = w.scope_rises;
        guides = guides_same must may value value' scope same w.guides;
        left = p.left;
        rises = p.rises;
        within = p.within;
        fits = w.fits;
        room = omega arith;
      };
      asked = p.asked;
    }

pub passed : (must may : ℕ → Bool) (value value' : ℕ → Truth) (scope rest : List ℕ) (h t l t' l' : ℕ) →
    IsUnderWay must may value scope (h ∷ rest) t l → ((n : ℕ) → value' n ≡ value n)
    → t' ≡ t + cond (is_asked must may scope h) 1 0 → l' ≡ l + cond (is_asked must may scope h) 1 0 →
    IsStep must may value' scope rest h t' l'
passed must may value value' scope rest h t l t' l' w same et el =
    (elim (is_asked must may scope h) as (λ v. is_asked must may scope h ≡ v → t' ≡ t + cond v 1 0 →
    l' ≡ l + cond v 1 0 → IsStep must may value' scope rest h t' l') [
      | true ↦ λ holds e d.
          let p = asked must may scope rest h t w.left w.rises holds in
          let is : t' ≡ suc t = e ∙ add-one t in
          step_of must may value value' scope rest h t l t' l' w same
          (subst (λ (k : ℕ). IsPassed must may scope rest h t k) (sym is) p) (omega arith)
      | false ↦ λ fails e d.
          let p = not_asked must may scope rest h t w.left w.rises w.within fails in
          let is : t' ≡ t = omega arith in
          step_of must may value value' scope rest h t l t' l' w same
          (subst (λ (k : ℕ). IsPassed must may scope rest h t k) (sym is) p) (omega arith)
    ]) refl et el

-- the numbers to come are those that are wanted of the candidates
pub wanted_same : (value value' : ℕ → Truth) (scope candidates : List ℕ) → ((n : ℕ) → value' n ≡ value n) →
    filter (is_wanted value' scope) candidates ≡ filter (is_wanted value scope) candidates
wanted_same value value' scope candidates same =
    filter_same (is_wanted value' scope) (is_wanted value scope) (λ n. ap (λ (t : Truth). has_number n scope
    && is_true t) (same n)) candidates

pub even_more : (a b x d a' d' k : ℕ) → a + b ≡ x + d → a' ≡ a + k → d' ≡ d + k → a' + b ≡ x + d'
even_more a b x d a' d' k e f g = omega arith

-- all that is left open was asked for, once no candidate is left
pub none_left : (must may : ℕ → Bool) (value : ℕ → Truth) (scope candidates : List ℕ) (t l : ℕ) →
    IsUnderWay must may value scope candidates t l → candidates ≡ [] → t ≡ length (filter (is_open must may) scope)
none_left must may value scope candidates t l w e = all_counted (filter (is_open must may) scope) t w.within (w.left
    ∙ ap (filter (is_asked must may scope)) e)

-- candidates that are known to be in scope: the first, and the others
pub inside_first : (is_known : Bool) (n : ℕ) (rest scope candidates : List ℕ) → candidates ≡ n ∷ rest →
    AreInside is_known candidates scope → is_known ≡ true → has_number n scope ≡ true
inside_first is_known n rest scope candidates is h known = h known n (subst (λ (c : List ℕ). has_number n c ≡ true)
    (sym is) (has_head n rest))

pub inside_rest : (is_known : Bool) (n : ℕ) (rest scope candidates : List ℕ) → candidates ≡ n ∷ rest →
    AreInside is_known candidates scope → AreInside is_known rest scope
inside_rest is_known n rest scope candidates is h known m there =
    h known m (subst (λ (c : List ℕ). has_number m c ≡ true) (sym is) (or_late (nat_eq m n) _ there))

-- what holds of each candidate that is in scope: of the first, and of the others
pub same_first : (one other : ℕ → Bool) (n : ℕ) (rest scope candidates : List ℕ) → candidates ≡ n ∷ rest →
    AreSameWithin one other scope candidates → has_number n scope ≡ true → one n ≡ other n
same_first one other n rest scope candidates is same = same n (subst (λ (c : List ℕ). has_number n c ≡ true) (sym is)
    (has_head n rest))

same_rest : (one other : ℕ → Bool) (n : ℕ) (rest scope candidates : List ℕ) → candidates ≡ n ∷ rest →
    AreSameWithin one other scope candidates → AreSameWithin one other scope rest
same_rest one other n rest scope candidates is same m there = same m (subst (λ (c : List ℕ). has_number m c ≡ true)
    (sym is) (or_late (nat_eq m n) _ there))

-- the same of the others, when plans were taken forward to the first: the others are above it
pub same_left : (must may : ℕ → Bool) (value : ℕ → Truth) (one one' other : ℕ → Bool) (h : ℕ) (rest scope candidates :
    List ℕ) (t l : ℕ) → candidates ≡ h ∷ rest → IsUnderWay must may value scope candidates t l
    → AreSameFrom h one' one → AreSameWithin one other scope candidates → AreSameWithin one' other scope rest
same_left must may value one one' other h rest scope candidates t l is w same within n there inside =
    let front = take t (filter (is_open must may) scope) in
    let later : h < n = has_above n h rest (all_behind front rest h (subst (λ (c : List ℕ). IsRising (front ++ c)) is
    w.rises)) there in
    same n (omega arith) ∙ same_rest one other h rest scope candidates is within n there inside

-- a number is asked for where resolved plans leave it open just where the plans do
pub asked_same : (must may must' may' : ℕ → Bool) (scope : List ℕ) (n : ℕ) →
    (has_number n scope ≡ true → must' n ≡ must n) → (has_number n scope ≡ true → may' n ≡ may n)
    → is_asked must' may' scope n ≡ is_asked must may scope n
asked_same must may must' may' scope n m y =
    (elim (has_number n scope) as (λ v. has_number n scope ≡ v → (v && (may' n && not (must' n))) ≡
    (v && (may n && not (must n)))) [
      | true ↦ λ inside. ap₂ (λ (a b : Bool). a && not b) (y inside) (m inside)
      | false ↦ λ outside. refl
    ]) refl

pub guided : (must may must' may' : ℕ → Bool) (value : ℕ → Truth) (scope : List ℕ) (n : ℕ) →
    Guides must value may scope → (has_number n scope ≡ true → must' n ≡ must n) →
    (has_number n scope ≡ true → may' n ≡ may n)
    → has_number n scope ≡ true → IsGuided (must' n) (value n) (may' n)
guided must may must' may' value scope n g m y inside = record {
  sound = λ h. g.sound n inside (sym (m inside) ∙ h);
  complete = λ h. y inside ∙ g.complete n inside h;
}

-- a candidate is passed, by what resolved plans say of it
pub passed_by : (must may must' may' : ℕ → Bool) (value value' : ℕ → Truth) (scope candidates rest : List ℕ)
    (h t l t' l' : ℕ) → candidates ≡ h ∷ rest → IsUnderWay must may value scope candidates t l
    → AreSameWithin must' must scope candidates → AreSameWithin may' may scope candidates →
    ((n : ℕ) → value' n ≡ value n)
    → t' ≡ t + cond (is_asked must' may' scope h) 1 0 → l' ≡ l + cond (is_asked must' may' scope h) 1 0 →
    IsStep must may value' scope rest h t' l'
passed_by must may must' may' value value' scope candidates rest h t l t' l' is w m y same et el =
    let asks : is_asked must' may' scope h ≡ is_asked must may scope h = asked_same must may must' may' scope h
    (same_first must' must h rest scope candidates is m) (same_first may' may h rest scope candidates is y) in
    passed must may value value' scope rest h t l t' l' (subst (λ (c : List ℕ). IsUnderWay must may value scope c t l)
    is w) same
    (et ∙ ap (λ (b : Bool). t + cond b 1 0) asks) (el ∙ ap (λ (b : Bool). l + cond b 1 0) asks)

-- there is room to ask for one that is left open
pub room_for : (must may must' may' : ℕ → Bool) (value : ℕ → Truth) (scope candidates rest : List ℕ) (h t l : ℕ) →
    candidates ≡ h ∷ rest → IsUnderWay must may value scope candidates t l
    → AreSameWithin must' must scope candidates → AreSameWithin may' may scope candidates → is_asked must' may' scope
    h ≡ true → (l + 1 < 2 ^ 64) × (t + 1 < 2 ^ 64)
room_for must may must' may' value scope candidates rest h t l is w m y asks =
    let u = filter (is_open must may) scope in
    let holds : is_asked must may scope h ≡ true = sym (asked_same must may must' may' scope h
    (same_first must' must h rest scope candidates is m) (same_first may' may h rest scope candidates is y))
    ∙ asks in
    let c : IsCut u t h (filter (is_asked must may scope) rest) = cut u t h (filter (is_asked must may scope) rest)
    (w.left ∙ ap (filter (is_asked must may scope)) is ∙ filter_yes (is_asked must may scope) h rest holds) in
    let within : suc t ≤ length u = c.within in
    let fits : length u < 2 ^ 64 = w.fits in
    let room : l + length u < 2 ^ 64 + t = w.room in
    (omega arith, omega arith)
