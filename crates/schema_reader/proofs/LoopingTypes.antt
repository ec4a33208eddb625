-- A type is on a loop of SUPs where more SUPs than there are types lead to it.
use Rattle.std.proofs.Common.{ℕ, ◌+◌, ◌*◌, ◌/◌, ◌<◌, ◌≤◌, zero, suc, List, [], ◌∷◌, Bool, true, false, ◌||◌, Option, None, Some, ◌≡◌, ◌⊎◌, inl, inr, refl, ap, sym, subst, ◌∙◌, length, map, set, replicate, nat_eq, arith}
use Rattle.std.specs.List.{IsDistinct, list_any}
use Rattle.std.proofs.Math.Nat.{mul-le-mul_left}
use Rattle.std.proofs.Math.ListN.{length-set}
use Rattle.std.proofs.lemmas.Map.Keys.{IsDistinct-cons}
use Rattle.std.proofs.lemmas.Map.Steps.{length-le_from_distinct_below}
use Rattle.std.proofs.lemmas.Bool.Decides.{nat_tests}
use Rattle.ldap_schema.specs.Schema.{TypeModel, led, if_led, superior_of, superiors, ends_within}
use Rattle.schema_reader.specs.Reading.{is_type_looping}
use Rattle.schema_reader.specs.private.Looping.{then_up, up, step_at, doubled, IsUp, IsUpBut, marked, all_marked, has_mark}
use Rattle.schema_reader.proofs.Loops.{false_true, none_some, or_cases, same_number, within, len, below, begun, apart, one_distinct}
use Rattle.schema_reader.proofs.FallingClasses.{behind_or as or_two}

some_same : {A : Type 0} {x y : A} → Some x ≡ Some y → x ≡ y
some_same h = cc

-- SUPs one after the other
then_same : (o : Option ℕ) (f g : ℕ → Option ℕ) → ((u : ℕ) → f u ≡ g u) → then_up o f ≡ then_up o g
then_same None f g h = refl
then_same (Some u) f g h = h u

then_then : (o : Option ℕ) (f g : ℕ → Option ℕ) → then_up o (λ u. then_up (f u) g) ≡ then_up (then_up o f) g
then_then None f g = refl
then_then (Some u) f g = refl

up_add : (ts : List TypeModel) (a b t : ℕ) → up ts (a + b) t ≡ then_up (up ts a t) (up ts b)
up_add ts zero b t = ap (λ (n : ℕ). up ts n t) (omega arith)
up_add ts (suc a) b t =
    let e : suc a + b ≡ suc (a + b) = omega arith in
    ap (λ (n : ℕ). up ts n t) e
    ∙ then_same (superior_of ts t) (λ u. up ts (a + b) u) (λ u. then_up (up ts a u) (up ts b)) (λ u. up_add ts a b u)
    ∙ then_then (superior_of ts t) (λ u. up ts a u) (up ts b)

up_first : (ts : List TypeModel) (t : ℕ) → superior_of ts t ≡ up ts 1 t
up_first ts t = one (superior_of ts t)
  where
    one : (o : Option ℕ) → o ≡ then_up o (λ u. Some u)
    one None = refl
    one (Some u) = refl

up_via : (ts : List TypeModel) (a b t u : ℕ) (o : Option ℕ) → up ts a t ≡ Some u → up ts b u ≡ o → up ts (a + b) t ≡ o
up_via ts a b t u o f g = up_add ts a b t ∙ ap (λ (p : Option ℕ). then_up p (up ts b)) f ∙ g

-- steps of a list
step_mapped : (os : List (Option ℕ)) (f : ℕ → Option ℕ) (t : ℕ) → step_at (map (λ o. then_up o f) os) t ≡
    then_up (step_at os t) f
step_mapped [] f t = refl
step_mapped (o ∷ os) f zero = refl
step_mapped (o ∷ os) f (suc t) = step_mapped os f t

length_mapped : {A B : Type 0} (f : A → B) (xs : List A) → length (map f xs) ≡ length xs
length_mapped f [] = refl
length_mapped f (x ∷ xs) = ap suc (length_mapped f xs)

up_twice : (ts : List TypeModel) (m : ℕ) (steps : List (Option ℕ)) → IsUp ts m steps → IsUp ts (m + m) (doubled steps)
up_twice ts m steps h = record {
  count = length_mapped (λ o. then_up o (step_at steps)) steps ∙ h.count;
  is = λ t. step_mapped steps (step_at steps) t ∙ ap (λ (p : Option ℕ). then_up p (step_at steps)) (h.is t)
      ∙ then_same (up ts m t) (step_at steps) (up ts m) h.is ∙ sym (up_add ts m m t);
}

half : (m n left : ℕ) → n < m * (left + 1) → n < (m + m) * (left / 2 + 1)
half m n left h = omega (arith, mul-le-mul_left m (half_of left), h)
  where
    half_of : (k : ℕ) → k + 1 ≤ 2 * (k / 2 + 1)
    half_of k = omega arith

pub twice_up : (ts : List TypeModel) (left : ℕ) (steps new : List (Option ℕ)) → new ≡ doubled steps →
    IsUpBut ts left steps → IsUpBut ts (left / 2) new
twice_up ts left steps new e h = (
  h.0 + h.0,
  half h.0 (length ts) left h.1,
  subst (IsUp ts (h.0 + h.0)) (sym
      e) (up_twice ts h.0 steps h.2),
)

-- a type on a loop comes back after some SUPs
abbrev pub Back : List TypeModel → ℕ → ℕ → ℕ → Type 0
Back ts k a b = (j : ℕ) × (j < k) × (up ts (suc j) a ≡ Some b)

back_first : (ts : List TypeModel) (k a b u : ℕ) → superior_of ts a ≡ Some u → nat_eq u b ≡ true → Back ts (suc k) a b
back_first ts k a b u e h = (
  0,
  omega arith,
  ap (λ (o : Option ℕ). then_up o (λ x. Some x)) e ∙ ap Some (same_number u
      b h),
)

back_later : (ts : List TypeModel) (k a b u : ℕ) → superior_of ts a ≡ Some u → Back ts k u b → Back ts (suc k) a b
back_later ts k a b u e h =
    (suc h.0, omega (arith, h.1), ap (λ (o : Option ℕ). then_up o (λ x. up ts (suc h.0) x)) e ∙ h.2)

back_by : (ts : List TypeModel) (k a b : ℕ) (o : Option ℕ) → superior_of ts a ≡ o →
    ((u : ℕ) → list_any (λ x. nat_eq x b) (superiors k ts u) ≡ true → Back ts k u b) → list_any (λ x. nat_eq x b)
    (led o (λ u. superiors k ts u)) ≡ true → Back ts (suc k) a b
back_by ts k a b None e f h = absurd (false_true h)
back_by ts k a b (Some u) e f h = or_cases (nat_eq u b) (list_any (λ x. nat_eq x b) (superiors k ts u)) h
    (back_first ts k a b u e) (λ g. back_later ts k a b u e (f u g))

back : (ts : List TypeModel) (k a b : ℕ) → list_any (λ x. nat_eq x b) (superiors k ts a) ≡ true → Back ts k a b
back ts zero a b h = absurd (false_true h)
back ts (suc k) a b h = back_by ts k a b (superior_of ts a) refl (λ u. back ts k u b) h

-- and the other way round
eq_itself : (a b : ℕ) → a ≡ b → nat_eq a b ≡ true
eq_itself a b e = grind (arith, nat_tests, e)

or_one : (a b : Bool) → a ≡ true → (a || b) ≡ true
or_one true b h = refl
or_one false b h = absurd (false_true h)

among_by : (ts : List TypeModel) (k b j : ℕ) (o : Option ℕ) → ((u : ℕ) (i : ℕ) → i < k → up ts (suc i) u ≡ Some b →
    list_any (λ x. nat_eq x b) (superiors k ts u) ≡ true) → j < suc k → then_up o (λ u. up ts j u) ≡ Some b →
    list_any (λ x. nat_eq x b) (led o (λ u. superiors k ts u)) ≡ true
among_by ts k b j None f lt h = absurd (none_some h)
among_by ts k b zero (Some u) f lt h = or_one (nat_eq u b) _ (eq_itself u b (some_same h))
among_by ts k b (suc i) (Some u) f lt h = or_two (nat_eq u b) _ (f u i (omega (arith, lt)) h)

among : (ts : List TypeModel) (k a b j : ℕ) → j < k → up ts (suc j) a ≡ Some b → list_any (λ x. nat_eq x b)
    (superiors k ts a) ≡ true
among ts zero a b j lt h = absurd (omega (arith, lt))
among ts (suc k) a b j lt h = among_by ts k b j (superior_of ts a) (λ u i. among ts k u b i) lt h

-- the superior of a type on a loop is on the loop
goes_up : (ts : List TypeModel) (a u : ℕ) → superior_of ts a ≡ Some u → up ts 1 a ≡ Some u
goes_up ts a u e = sym (up_first ts a) ∙ e

next_back : (ts : List TypeModel) (a u j : ℕ) → superior_of ts a ≡ Some u → up ts (suc j) a ≡ Some a →
    up ts (suc j) u ≡ Some u
next_back ts a u j e h =
    let two : up ts (suc j + 1) a ≡ Some u = up_via ts (suc j) 1 a a (Some u) h (goes_up ts a u e) in
    let one : up ts (1 + suc j) a ≡ up ts (suc j) u = up_via ts 1 (suc j) a u (up ts (suc j) u) (goes_up ts a u e)
    refl in
    let same : 1 + suc j ≡ suc j + 1 = omega arith in
    sym one ∙ ap (λ (n : ℕ). up ts n a) same ∙ two

next_loops : (ts : List TypeModel) (a u : ℕ) → superior_of ts a ≡ Some u → is_type_looping ts a ≡ true →
    is_type_looping ts u ≡ true
next_loops ts a u e h =
    let b : Back ts (length ts) a a = back ts (length ts) a a h in
    among ts (length ts) u u b.0 b.1 (next_back ts a u b.0 e b.2)

-- so a type that leads to one on no loop is on none
off_by : (b : Bool) → (b ≡ true → ⊥) → b ≡ false
off_by true f = absurd (f refl)
off_by false f = refl

true_false : {P : Type 0} (b : Bool) → b ≡ true → b ≡ false → P
true_false true h g = absurd (false_true (sym g))
true_false false h g = absurd (false_true h)

off_one : (ts : List TypeModel) (a u : ℕ) → superior_of ts a ≡ Some u → is_type_looping ts u ≡ false →
    is_type_looping ts a ≡ false
off_one ts a u e off = off_by (is_type_looping ts a) (λ h. true_false (is_type_looping ts u) (next_loops ts a u e h)
    off)

off_up_by : (ts : List TypeModel) (k t a : ℕ) (o : Option ℕ) → superior_of ts a ≡ o → ((u : ℕ) → up ts k u ≡ Some t →
    is_type_looping ts u ≡ false) → then_up o (λ u. up ts k u) ≡ Some t → is_type_looping ts a ≡ false
off_up_by ts k t a None e f h = absurd (none_some h)
off_up_by ts k t a (Some u) e f h = off_one ts a u e (f u h)

off_up : (ts : List TypeModel) (k t a : ℕ) → is_type_looping ts t ≡ false → up ts k a ≡ Some t →
    is_type_looping ts a ≡ false
off_up ts zero t a off h = subst (λ (x : ℕ). is_type_looping ts x ≡ false) (sym (some_same h)) off
off_up ts (suc k) t a off h = off_up_by ts k t a (superior_of ts a) refl (λ u. off_up ts k t u off) h

-- the types on the way to it are distinct
distinct_by : (ts : List TypeModel) (k j t a : ℕ) (o : Option ℕ) → list_any (λ u. nat_eq u a)
    (led o (λ u. superiors k ts u)) ≡ false → then_up o (λ u. up ts j u) ≡ Some t → ((u : ℕ) → up ts j u ≡ Some t →
    IsDistinct nat_eq (u ∷ superiors k ts u)) → IsDistinct nat_eq (a ∷ led o (λ u. superiors k ts u))
distinct_by ts k j t a None n h f = absurd (none_some h)
distinct_by ts k j t a (Some u) n h f = IsDistinct-cons nat_eq a (u ∷ superiors k ts u)
    (apart a (u ∷ superiors k ts u) n) (f u h)

distinct : (ts : List TypeModel) (k j t a : ℕ) → k ≤ length ts → k ≤ j → is_type_looping ts t ≡ false →
    up ts j a ≡ Some t → IsDistinct nat_eq (a ∷ superiors k ts a)
distinct ts zero j t a low le off h = one_distinct a
distinct ts (suc k) zero t a low le off h = absurd (omega (arith, le))
distinct ts (suc k) (suc j) t a low le off h =
    distinct_by ts k j t a (superior_of ts a) (begun ts (λ x. nat_eq x a) (suc k) (length ts) a low
    (off_up ts (suc j) t a off h)) h
    (λ u g. distinct ts k j t u (omega (arith, low)) (omega (arith, le)) off g)

-- and there are as many
goes_by : (ts : List TypeModel) (k j t : ℕ) (o : Option ℕ) → then_up o (λ u. up ts j u) ≡ Some t →
    ((u : ℕ) → up ts j u ≡ Some t → ends_within k ts u ≡ false) → if_led o (λ u. ends_within k ts u) ≡ false
goes_by ts k j t None h f = absurd (none_some h)
goes_by ts k j t (Some u) h f = f u h

goes_one : (ts : List TypeModel) (j t : ℕ) (o : Option ℕ) → then_up o (λ u. up ts j u) ≡ Some t →
    if_led o (λ u. false) ≡ false
goes_one ts j t None h = absurd (none_some h)
goes_one ts j t (Some u) h = refl

goes_on : (ts : List TypeModel) (k j t a : ℕ) → k < j → up ts j a ≡ Some t → ends_within k ts a ≡ false
goes_on ts k zero t a lt h = absurd (omega (arith, lt))
goes_on ts zero (suc j) t a lt h = goes_one ts j t (superior_of ts a) h
goes_on ts (suc k) (suc j) t a lt h = goes_by ts k j t (superior_of ts a) h
    (λ u. goes_on ts k j t u (omega (arith, lt)))

too_many : (ts : List TypeModel) (m t a : ℕ) → length ts < m → is_type_looping ts t ≡ false → up ts m a ≡ Some t → ⊥
too_many ts m t a lt off h =
    let g : ends_within (length ts) ts a ≡ false = goes_on ts (length ts) m t a lt h in
    let l : length (superiors (length ts) ts a) ≡ length ts = len ts (length ts) a g in
    let d : length (a ∷ superiors (length ts) ts a) ≤ length ts =
    length-le_from_distinct_below (a ∷ superiors (length ts) ts a) (length ts) (distinct ts (length ts) m t a
    (omega arith) (omega (arith, lt)) off h) (below ts (length ts) a g) in
    omega (arith, l, d)

on_by : (b : Bool) → (b ≡ false → ⊥) → b ≡ true
on_by true f = refl
on_by false f = absurd (f refl)

led_loops : (ts : List TypeModel) (m t a : ℕ) → length ts < m → up ts m a ≡ Some t → is_type_looping ts t ≡ true
led_loops ts m t a lt h = on_by (is_type_looping ts t) (λ off. too_many ts m t a lt off h)

-- a type on a loop is led to by any number of SUPs
around : (ts : List TypeModel) (p t k : ℕ) → up ts p t ≡ Some t → up ts (k * p) t ≡ Some t
around ts p t zero h = let e : zero * p ≡ zero = omega arith in ap (λ (n : ℕ). up ts n t) e
around ts p t (suc k) h =
    let e : suc k * p ≡ p + k * p = omega arith in
    ap (λ (n : ℕ). up ts n t) e ∙ up_via ts p (k * p) t t (Some t) h (around ts p t k h)

some_from : (ts : List TypeModel) (m t : ℕ) (o : Option ℕ) → then_up o (up ts m) ≡ Some t → (s : ℕ)
    × (up ts m s ≡ Some t)
some_from ts m t None h = absurd (none_some h)
some_from ts m t (Some s) h = (s, h)

loop_led : (ts : List TypeModel) (m t : ℕ) → is_type_looping ts t ≡ true → (s : ℕ) × (up ts m s ≡ Some t)
loop_led ts m t h =
    let b : Back ts (length ts) t t = back ts (length ts) t t h in
    let e : m * suc b.0 ≡ m * b.0 + m = omega arith in
    some_from ts m t (up ts (m * b.0) t) (sym (up_add ts (m * b.0) m t) ∙ ap (λ (n : ℕ). up ts n t) (sym e)
    ∙ around ts (suc b.0) t m b.2)

-- marks
mark_one : (ms : List Bool) (i t : ℕ) → has_mark (set ms i true) t ≡ true → (has_mark ms t ≡ true) ⊎ (i ≡ t)
mark_one [] i t h = absurd (false_true h)
mark_one (b ∷ ms) zero zero h = inr refl
mark_one (b ∷ ms) zero (suc t) h = inl h
mark_one (b ∷ ms) (suc i) zero h = inl h
mark_one (b ∷ ms) (suc i) (suc t) h = later (mark_one ms i t h)
  where
    later : (has_mark ms t ≡ true) ⊎ (i ≡ t) → (has_mark ms t ≡ true) ⊎ (suc i ≡ suc t)
    later (inl e) = inl e
    later (inr e) = inr (ap suc e)

mark_stays : (ms : List Bool) (i t : ℕ) → has_mark ms t ≡ true → has_mark (set ms i true) t ≡ true
mark_stays [] i t h = h
mark_stays (b ∷ ms) zero zero h = refl
mark_stays (b ∷ ms) zero (suc t) h = h
mark_stays (b ∷ ms) (suc i) zero h = h
mark_stays (b ∷ ms) (suc i) (suc t) h = mark_stays ms i t h

mark_there : (ms : List Bool) (t : ℕ) → t < length ms → has_mark (set ms t true) t ≡ true
mark_there [] t lt = absurd (omega (arith, lt))
mark_there (b ∷ ms) zero lt = refl
mark_there (b ∷ ms) (suc t) lt = mark_there ms t (omega (arith, lt))

-- one of the steps leads to a type
abbrev pub Led : List (Option ℕ) → ℕ → Type 0
Led os t = (s : ℕ) × (step_at os s ≡ Some t)

led_first : (o : Option ℕ) (os : List (Option ℕ)) (t : ℕ) → o ≡ Some t → Led (o ∷ os) t
led_first o os t e = (0, e)

led_later : (o : Option ℕ) (os : List (Option ℕ)) (t : ℕ) → Led os t → Led (o ∷ os) t
led_later o os t h = (suc h.0, h.1)

marked_by : (ms : List Bool) (o : Option ℕ) (t : ℕ) → has_mark (marked ms o) t ≡ true → (has_mark ms t ≡ true)
    ⊎ (o ≡ Some t)
marked_by ms None t h = inl h
marked_by ms (Some u) t h = by (mark_one ms u t h)
  where
    by : (has_mark ms t ≡ true) ⊎ (u ≡ t) → (has_mark ms t ≡ true) ⊎ (Some u ≡ Some t)
    by (inl e) = inl e
    by (inr e) = inr (ap Some e)

mark_led : (ms : List Bool) (os : List (Option ℕ)) (t : ℕ) → has_mark (all_marked ms os) t ≡ true →
    (has_mark ms t ≡ true) ⊎ Led os t
mark_led ms [] t h = inl h
mark_led ms (o ∷ os) t h = further (mark_led (marked ms o) os t h)
  where
    first : (has_mark ms t ≡ true) ⊎ (o ≡ Some t) → (has_mark ms t ≡ true) ⊎ Led (o ∷ os) t
    first (inl e) = inl e
    first (inr e) = inr (led_first o os t e)

    further : (has_mark (marked ms o) t ≡ true) ⊎ Led os t → (has_mark ms t ≡ true) ⊎ Led (o ∷ os) t
    further (inl e) = first (marked_by ms o t e)
    further (inr e) = inr (led_later o os t e)

keeps_one : (ms : List Bool) (o : Option ℕ) (t : ℕ) → has_mark ms t ≡ true → has_mark (marked ms o) t ≡ true
keeps_one ms None t h = h
keeps_one ms (Some u) t h = mark_stays ms u t h

keeps : (ms : List Bool) (os : List (Option ℕ)) (t : ℕ) → has_mark ms t ≡ true → has_mark (all_marked ms os) t ≡ true
keeps ms [] t h = h
keeps ms (o ∷ os) t h = keeps (marked ms o) os t (keeps_one ms o t h)

length_marked : (ms : List Bool) (o : Option ℕ) → length (marked ms o) ≡ length ms
length_marked ms None = refl
length_marked ms (Some u) = length-set ms u true

gets_one : (ms : List Bool) (o : Option ℕ) (t : ℕ) → t < length ms → o ≡ Some t → has_mark (marked ms o) t ≡ true
gets_one ms o t lt e = ap (λ (p : Option ℕ). has_mark (marked ms p) t) e ∙ mark_there ms t lt

gets : (ms : List Bool) (os : List (Option ℕ)) (t s : ℕ) → t < length ms → step_at os s ≡ Some t →
    has_mark (all_marked ms os) t ≡ true
gets ms [] t s lt h = absurd (none_some h)
gets ms (o ∷ os) t zero lt h = keeps (marked ms o) os t (gets_one ms o t lt h)
gets ms (o ∷ os) t (suc s) lt h = gets (marked ms o) os t s (omega (arith, lt, length_marked ms o)) h

none_marked : (n t : ℕ) → has_mark (replicate n false) t ≡ true → ⊥
none_marked zero t h = false_true h
none_marked (suc n) zero h = false_true h
none_marked (suc n) (suc t) h = none_marked n t h

length_replicate : (n : ℕ) → length (replicate n false) ≡ n
length_replicate zero = refl
length_replicate (suc n) = ap suc (length_replicate n)

-- the marks are those of the types on loops
same_bool : (a b : Bool) → (a ≡ true → b ≡ true) → (b ≡ true → a ≡ true) → a ≡ b
same_bool true true f g = refl
same_bool true false f g = sym (f refl)
same_bool false true f g = g refl
same_bool false false f g = refl

inside : (ts : List TypeModel) (t : ℕ) → is_type_looping ts t ≡ true → t < length ts
inside ts t h = by (superior_of ts t) refl (back ts (length ts) t t h)
  where
    by : (o : Option ℕ) → superior_of ts t ≡ o → Back ts (length ts) t t → t < length ts
    by None e b = absurd (none_some (ap (λ (o : Option ℕ). then_up o (λ u. up ts b.0 u)) (sym e) ∙ b.2))
    by (Some u) e b = within ts t u e

pub marks_are : (ts : List TypeModel) (steps : List (Option ℕ)) (marks : List Bool) → IsUpBut ts 0 steps →
    marks ≡ all_marked (replicate (length steps) false) steps → (t : ℕ) → has_mark marks t ≡ is_type_looping ts t
marks_are ts steps marks h e t =
    ap (λ (ms : List Bool). has_mark ms t) e
    ∙ same_bool (has_mark (all_marked (replicate (length steps) false) steps) t) (is_type_looping ts t)
    (λ m. on (mark_led (replicate (length steps) false) steps t m))
    (λ l. let s : (s : ℕ) × (up ts h.0 s ≡ Some t) = loop_led ts h.0 t l in
    gets (replicate (length steps) false) steps t s.0
    (omega (arith, inside ts t l, length_replicate (length steps), h.2.count)) (h.2.is s.0 ∙ s.1))
  where
    many : length ts < h.0
    many = omega (arith, h.1)

    on : (has_mark (replicate (length steps) false) t ≡ true) ⊎ Led steps t → is_type_looping ts t ≡ true
    on (inl m) = absurd (none_marked (length steps) t m)
    on (inr l) = led_loops ts h.0 t l.0 many (sym (h.2.is l.0) ∙ l.1)
