-- How far a chain of SUPs goes: it comes back before it has as many steps as there are types.
use Rattle.std.proofs.Common.{ℕ, ◌+◌, ◌-◌, ◌<◌, ◌≤◌, zero, suc, List, [], ◌∷◌, Bool, true, false, ◌||◌, Option, None, Some, ◌≡◌, ◌⊎◌, inl, inr, refl, sym, ap, ap₂, ◌∙◌, subst, length, nat_eq, arith}
use Rattle.std.proofs.lemmas.Bool.{eqb-true, eq-eqb, cases_lt}
use Rattle.std.proofs.lemmas.Bool.Decides.{nat_tests}
use Rattle.std.proofs.lemmas.Map.Keys.{IsDistinct-cons}
use Rattle.std.proofs.lemmas.Map.Steps.{length-le_from_distinct_below}
use Rattle.std.specs.List.{AllByRecursion, IsDistinct, list_any}
use Rattle.ldap_match.specs.ldap_schema.Schema.{SchemaModel, TypeModel, led, superior_of, superiors, IsUnder, is_itself, goes_up}
use Rattle.ldap_dn.proofs.Spelled.{none_some, some_same}
use Rattle.schema_laws.proofs.Lettered.{not_left, not_right}
use Rattle.schema_laws.proofs.FirstFound.{dot_by as or_second}

-- ---- so many steps up

abbrev then_on : Option ℕ → (ℕ → Option ℕ) → Option ℕ
then_on None f = None
then_on (Some u) f = f u

-- the type that so many SUPs lead to
abbrev pub walk : List TypeModel → ℕ → ℕ → Option ℕ
walk ts zero t = Some t
walk ts (suc k) t = then_on (superior_of ts t) (walk ts k)

pub first_step : (ts : List TypeModel) (k t u : ℕ) → superior_of ts t ≡ Some u → walk ts (suc k) t ≡ walk ts k u
first_step ts k t u e = ap (λ o. then_on o (walk ts k)) e

record Stepped (ts : List TypeModel) (k t x : ℕ) : Type 0 where
  u : ℕ
  goes : superior_of ts t ≡ Some u
  rest : walk ts k u ≡ Some x

stepped_by : (ts : List TypeModel) (k t x : ℕ) (o : Option ℕ) → superior_of ts t ≡ o → then_on o (walk ts k) ≡
    Some x → Stepped ts k t x
stepped_by ts k t x None e h = absurd (none_some h)
stepped_by ts k t x (Some u) e h = record { u = u; goes = e; rest = h }

stepped : (ts : List TypeModel) (k t x : ℕ) → walk ts (suc k) t ≡ Some x → Stepped ts k t x
stepped ts k t x h = stepped_by ts k t x (superior_of ts t) refl h

-- steps one after another
on : (ts : List TypeModel) (i d t x : ℕ) → walk ts i t ≡ Some x → walk ts (i + d) t ≡ walk ts d x
on ts zero d t x h = let e : zero + d ≡ d = omega arith in ap (λ n. walk ts n t) e ∙ ap (walk ts d) (some_same h)
on ts (suc i) d t x h =
    let s = stepped ts i t x h in
    let e : suc i + d ≡ suc (i + d) = omega arith in
    ap (λ n. walk ts n t) e ∙ first_step ts (i + d) t s.u s.goes ∙ on ts i d s.u x s.rest

-- each type that a SUP names is one of the types
abbrev pub AreWithin : List TypeModel → Type 0
AreWithin ts = (t u : ℕ) → superior_of ts t ≡ Some u → u < length ts

within : (ts : List TypeModel) → AreWithin ts → (k t x : ℕ) → walk ts k t ≡ Some x → t < length ts → x < length ts
within ts w zero t x h lt = subst (λ y. y < length ts) (some_same h) lt
within ts w (suc k) t x h lt = let s = stepped ts k t x h in within ts w k s.u x s.rest (w t s.u s.goes)

-- ---- the types on the way

on_way_by : (ts : List TypeModel) (k t x : ℕ) (o : Option ℕ) → superior_of ts t ≡ o →
    ((u : ℕ) → superior_of ts t ≡ Some u → length (superiors k ts u) ≡ k) → then_on o (walk ts k) ≡ Some x →
    length (led o (λ u. superiors k ts u)) ≡ suc k
on_way_by ts k t x None e f h = absurd (none_some h)
on_way_by ts k t x (Some u) e f h = ap suc (f u e)

as_many : (ts : List TypeModel) (k t x : ℕ) → walk ts k t ≡ Some x → length (superiors k ts t) ≡ k
as_many ts zero t x h = refl
as_many ts (suc k) t x h =
    let s = stepped ts k t x h in
    on_way_by ts k t x (superior_of ts t) refl (λ u e. let same : s.u ≡ u = some_same (sym s.goes ∙ e) in subst
    (λ y. length (superiors k ts y) ≡ k) same (as_many ts k s.u x s.rest)) h

-- a type on the way is met after some steps
record Met (ts : List TypeModel) (k t q : ℕ) : Type 0 where
  j : ℕ
  le : j ≤ k
  at : walk ts j t ≡ Some q

met_later : (ts : List TypeModel) (k t u q : ℕ) → superior_of ts t ≡ Some u → Met ts k u q → Met ts (suc k) t q
met_later ts k t u q e m = record { j = suc m.j; le = omega (arith, m.le); at = first_step ts m.j t u e ∙ m.at }

met_or : (ts : List TypeModel) (k t q : ℕ) (b c : Bool) → nat_eq q t ≡ b → (b || c) ≡ true →
    (c ≡ true → Met ts k t q) → Met ts k t q
met_or ts k t q true c e h f = record { j = 0; le = omega arith; at = ap Some (sym (eqb-true q t e)) }
met_or ts k t q false c e h f = f h

met_by : (ts : List TypeModel) (k t q : ℕ) (o : Option ℕ) → superior_of ts t ≡ o →
    ((u : ℕ) → list_any (nat_eq q) (u ∷ superiors k ts u) ≡ true → Met ts k u q) →
    list_any (nat_eq q) (led o (λ u. superiors k ts u)) ≡ true → Met ts (suc k) t q
met_by ts k t q None e f h = cc
met_by ts k t q (Some u) e f h = met_later ts k t u q e (f u h)

met : (ts : List TypeModel) (k t q : ℕ) → list_any (nat_eq q) (t ∷ superiors k ts t) ≡ true → Met ts k t q
met ts zero t q h = met_or ts 0 t q (nat_eq q t) false refl h (λ z. cc)
met ts (suc k) t q h = met_or ts (suc k) t q (nat_eq q t) (list_any (nat_eq q) (superiors (suc k) ts t)) refl h
    (λ g. met_by ts k t q (superior_of ts t) refl (λ u i. met ts k u q i) g)

-- ---- a type that is met twice

record Twice (ts : List TypeModel) (k t : ℕ) : Type 0 where
  i : ℕ
  j : ℕ
  x : ℕ
  lt : i < j
  le : j ≤ k
  here : walk ts i t ≡ Some x
  again : walk ts j t ≡ Some x

apart : (q : ℕ) (us : List ℕ) → list_any (nat_eq q) us ≡ false → AllByRecursion (λ y. nat_eq q y ≡ false) us
apart q [] h = tt
apart q (u ∷ us) h = (
  not_left (nat_eq q u) (list_any (nat_eq q) us) h,
  apart q us (not_right (nat_eq q u)
      (list_any (nat_eq q) us) h),
)

one_distinct : (t : ℕ) → IsDistinct nat_eq (t ∷ [])
unfolding IsDistinct
one_distinct t = (tt, tt)

twice_first : (ts : List TypeModel) (k t u : ℕ) → superior_of ts t ≡ Some u → Met ts k u t → Twice ts (suc k) t
twice_first ts k t u e m = record {
  i = 0;
  j = suc m.j;
  x = t;
  lt = omega arith;
  le = omega (arith, m.le);
  here =
      refl;
  again = first_step ts m.j t u e ∙ m.at;
}

twice_later : (ts : List TypeModel) (k t u : ℕ) → superior_of ts t ≡ Some u → Twice ts k u → Twice ts (suc k) t
twice_later ts k t u e w = record {
  i = suc w.i;
  j = suc w.j;
  x = w.x;
  lt = omega (arith, w.lt);
  le =
      omega (arith, w.le);
  here = first_step ts w.i t u e ∙ w.here;
  again = first_step ts w.j t u e ∙ w.again;
}

distinct_or : (ts : List TypeModel) (k t u : ℕ) (b : Bool) → superior_of ts t ≡ Some u →
    list_any (nat_eq t) (u ∷ superiors k ts u) ≡ b → IsDistinct nat_eq (u ∷ superiors k ts u) ⊎ Twice ts k u →
    IsDistinct nat_eq (t ∷ u ∷ superiors k ts u) ⊎ Twice ts (suc k) t
distinct_or ts k t u true e h d = inr (twice_first ts k t u e (met ts k u t h))
distinct_or ts k t u false e h (inl d) = inl (IsDistinct-cons nat_eq t (u ∷ superiors k ts u)
    (apart t (u ∷ superiors k ts u) h) d)
distinct_or ts k t u false e h (inr w) = inr (twice_later ts k t u e w)

distinct_by : (ts : List TypeModel) (k t : ℕ) (o : Option ℕ) → superior_of ts t ≡ o →
    ((u : ℕ) → IsDistinct nat_eq (u ∷ superiors k ts u) ⊎ Twice ts k u) →
    IsDistinct nat_eq (t ∷ led o (λ u. superiors k ts u)) ⊎ Twice ts (suc k) t
distinct_by ts k t None e f = inl (one_distinct t)
distinct_by ts k t (Some u) e f = distinct_or ts k t u (list_any (nat_eq t) (u ∷ superiors k ts u)) e refl (f u)

distinct : (ts : List TypeModel) (k t : ℕ) → IsDistinct nat_eq (t ∷ superiors k ts t) ⊎ Twice ts k t
distinct ts zero t = inl (one_distinct t)
distinct ts (suc k) t = distinct_by ts k t (superior_of ts t) refl (λ u. distinct ts k u)

twice_by : (ts : List TypeModel) → AreWithin ts → (t x : ℕ) → t < length ts → walk ts (length ts) t ≡ Some x →
    IsDistinct nat_eq (t ∷ superiors (length ts) ts t) ⊎ Twice ts (length ts) t → Twice ts (length ts) t
twice_by ts w t x lt h (inr z) = z
twice_by ts w t x lt h (inl d) =
    let many : length (superiors (length ts) ts t) ≡ length ts = as_many ts (length ts) t x h in
    let few : length (t ∷ superiors (length ts) ts t) ≤ length ts = length-le_from_distinct_below
    (t ∷ superiors (length ts) ts t) (length ts) d
    (λ q m. let f = met ts (length ts) t q m in within ts w f.j t q f.at lt) in
    absurd (omega (arith, many, few))

-- of more types than there are, one is met twice
twice : (ts : List TypeModel) → AreWithin ts → (t x : ℕ) → t < length ts → walk ts (length ts) t ≡ Some x →
    Twice ts (length ts) t
twice ts w t x lt h = twice_by ts w t x lt h (distinct ts (length ts) t)

-- ---- a chain that comes back

-- a type leads to itself in so many steps, one at least
pub record IsBackIn (ts : List TypeModel) (m t : ℕ) : Type 0 where
  pub some : 0 < m
  pub back : walk ts m t ≡ Some t

pub record IsBackSoon (ts : List TypeModel) (t : ℕ) : Type 0 where
  pub m : ℕ
  pub le : m ≤ length ts
  pub is : IsBackIn ts m t

no_more_by : (ts : List TypeModel) (n d t : ℕ) (o : Option ℕ) → superior_of ts t ≡ o → then_on o (walk ts n) ≡ None →
    ((u : ℕ) → walk ts n u ≡ None → walk ts (n + d) u ≡ None) → then_on o (walk ts (n + d)) ≡ None
no_more_by ts n d t None e h f = refl
no_more_by ts n d t (Some u) e h f = f u h

-- where a chain has ended there is nothing further
no_more : (ts : List TypeModel) (n d t : ℕ) → walk ts n t ≡ None → walk ts (n + d) t ≡ None
no_more ts zero d t h = absurd (none_some (sym h))
no_more ts (suc n) d t h =
    let e : suc n + d ≡ suc (n + d) = omega arith in
    ap (λ k. walk ts k t) e ∙ no_more_by ts n d t (superior_of ts t) refl h (λ u g. no_more ts n d u g)

longer_by : (ts : List TypeModel) (n d t y : ℕ) (o : Option ℕ) → walk ts n t ≡ o → walk ts (n + d) t ≡ Some y →
    (x : ℕ) × (walk ts n t ≡ Some x)
longer_by ts n d t y (Some x) e h = (x, e)
longer_by ts n d t y None e h = absurd (none_some (sym (no_more ts n d t e) ∙ h))

longer : (ts : List TypeModel) (n m t y : ℕ) → n ≤ m → walk ts m t ≡ Some y → (x : ℕ) × (walk ts n t ≡ Some x)
longer ts n m t y le h = let e : n + (m - n) ≡ m = omega (arith, le) in longer_by ts n (m - n) t y (walk ts n t) refl
    (ap (λ k. walk ts k t) e ∙ h)

-- where a type is met twice, what follows is the same
shorter : (ts : List TypeModel) (k m t y : ℕ) (w : Twice ts k t) → k < m → walk ts m t ≡ Some y →
    walk ts (w.i + (m - w.j)) t ≡ Some y
shorter ts k m t y w lt h =
    let le : w.j + (m - w.j) ≡ m = omega (arith, w.le, lt) in
    on ts w.i (m - w.j) t w.x w.here ∙ sym (on ts w.j (m - w.j) t w.x w.again) ∙ ap (λ n. walk ts n t) le ∙ h

soon_by : (ts : List TypeModel) (m t : ℕ) → AreWithin ts → t < length ts → IsBackIn ts m t → (length ts < m)
    ⊎ (m ≤ length ts) → ((n : ℕ) → n < m → IsBackIn ts n t → IsBackSoon ts t) → IsBackSoon ts t
soon_by ts m t w lt b (inr le) f = record { m = m; le = le; is = b }
soon_by ts m t w lt b (inl more) f =
    let at = longer ts (length ts) m t t (omega (arith, more)) b.back in
    let z = twice ts w t at.0 lt at.1 in
    f (z.i + (m - z.j)) (omega (arith, z.lt, z.le, more)) (record {
      some = omega (arith, z.le, more);
      back =
          shorter ts (length ts) m t t z more b.back;
    })

soon_from : (ts : List TypeModel) (f m t : ℕ) → AreWithin ts → t < length ts → m ≤ f → IsBackIn ts m t → IsBackSoon ts t
soon_from ts zero m t w lt le b = absurd (omega (arith, le, b.some))
soon_from ts (suc f) m t w lt le b = soon_by ts m t w lt b (cases_lt (length ts) m) (λ n less c. soon_from ts f n t w
    lt (omega (arith, le, less)) c)

pub low_in : (ts : List TypeModel) (t u : ℕ) → superior_of ts t ≡ Some u → t < length ts
low_in [] t u e = absurd (none_some e)
low_in (x ∷ ts) zero u e = omega arith
low_in (x ∷ ts) (suc t) u e = omega (arith, low_in ts t u e)

back_low : (ts : List TypeModel) (m t : ℕ) → IsBackIn ts m t → t < length ts
back_low ts zero t b = absurd (omega (arith, b.some))
back_low ts (suc m) t b = let s = stepped ts m t t b.back in low_in ts t s.u s.goes

-- a chain that comes back does so in as many steps as there are types
pub soon : (ts : List TypeModel) (m t : ℕ) → AreWithin ts → IsBackIn ts m t → IsBackSoon ts t
soon ts m t w b = soon_from ts m m t w (back_low ts m t b) (omega arith) b

-- ---- the test for a loop

hit_here : (q u : ℕ) (us : List ℕ) → u ≡ q → list_any (λ x. nat_eq x q) (u ∷ us) ≡ true
hit_here q u us e = ap (λ b. b || list_any (λ x. nat_eq x q) us) (eq-eqb u q e)

hit : (ts : List TypeModel) (k j t q : ℕ) → 0 < j → j ≤ k → walk ts j t ≡ Some q → list_any (λ x. nat_eq x q)
    (superiors k ts t) ≡ true
hit ts zero j t q lt le h = absurd (omega (arith, lt, le))
hit ts (suc k) zero t q lt le h = absurd (omega (arith, lt))
hit ts (suc k) (suc zero) t q lt le h =
    let s = stepped ts 0 t q h in
    ap (λ o. list_any (λ x. nat_eq x q) (led o (λ u. superiors k ts u))) s.goes ∙ hit_here q s.u (superiors k ts s.u)
    (some_same s.rest)
hit ts (suc k) (suc (suc j)) t q lt le h =
    let s = stepped ts (suc j) t q h in
    ap (λ o. list_any (λ x. nat_eq x q) (led o (λ u. superiors k ts u))) s.goes
    ∙ or_second (nat_eq s.u q) (list_any (λ x. nat_eq x q) (superiors k ts s.u)) (hit ts k (suc j) s.u q (omega arith)
    (omega (arith, le)) s.rest)

turned : (a b : ℕ) → nat_eq a b ≡ nat_eq b a
turned a b = grind (arith, nat_tests)

all_turned : (q : ℕ) (us : List ℕ) → list_any (nat_eq q) us ≡ list_any (λ x. nat_eq x q) us
all_turned q [] = refl
all_turned q (u ∷ us) = ap₂ (λ (a b : Bool). a || b) (turned q u) (all_turned q us)

pub record GoesBack (ts : List TypeModel) (t : ℕ) : Type 0 where
  pub first : ℕ
  pub goes : superior_of ts t ≡ Some first
  pub k : ℕ
  pub comes : walk ts k first ≡ Some t

goes_by : (ts : List TypeModel) (k t : ℕ) (o : Option ℕ) → superior_of ts t ≡ o →
    list_any (nat_eq t) (led o (λ u. superiors k ts u)) ≡ true → GoesBack ts t
goes_by ts k t None e h = cc
goes_by ts k t (Some u) e h = let m = met ts k u t h in record { first = u; goes = e; k = m.j; comes = m.at }

pub goes_back : (ts : List TypeModel) (k t : ℕ) → list_any (λ x. nat_eq x t) (superiors k ts t) ≡ true → GoesBack ts t
goes_back ts zero t h = cc
goes_back ts (suc k) t h = goes_by ts k t (superior_of ts t) refl (all_turned t (superiors (suc k) ts t) ∙ h)

pub is_looping : (ts : List TypeModel) → AreWithin ts → (m t : ℕ) → IsBackIn ts m t → list_any (λ x. nat_eq x t)
    (superiors (length ts) ts t) ≡ true
is_looping ts w m t b = let s = soon ts m t w b in hit ts (length ts) s.m t t s.is.some s.le s.is.back

-- ---- chains that end

end_by : (ts : List TypeModel) → AreWithin ts →
    ((t : ℕ) → t < length ts → list_any (λ x. nat_eq x t) (superiors (length ts) ts t) ≡ false) → (t : ℕ) →
    t < length ts → (o : Option ℕ) → walk ts (length ts) t ≡ o → o ≡ None
end_by ts w f t lt None e = refl
end_by ts w f t lt (Some x) e =
    let z = twice ts w t x lt e in
    let le : z.i + (z.j - z.i) ≡ z.j = omega (arith, z.lt) in
    let back : walk ts (z.j - z.i) z.x ≡ Some z.x = sym (on ts z.i (z.j - z.i) t z.x z.here)
    ∙ ap (λ n. walk ts n t) le ∙ z.again in
    let is : list_any (λ y. nat_eq y z.x) (superiors (length ts) ts z.x) ≡ true = is_looping ts w (z.j - z.i) z.x
    (record { some = omega (arith, z.lt); back = back }) in
    let not : list_any (λ y. nat_eq y z.x) (superiors (length ts) ts z.x) ≡ false =
    f z.x (within ts w z.i t z.x z.here lt) in
    cc

-- where no chain comes back, each ends before it has as many steps as there are types
pub ends : (ts : List TypeModel) → AreWithin ts →
    ((t : ℕ) → t < length ts → list_any (λ x. nat_eq x t) (superiors (length ts) ts t) ≡ false) → (t : ℕ) →
    t < length ts → walk ts (length ts) t ≡ None
ends ts w f t lt = end_by ts w f t lt (walk ts (length ts) t) refl

-- ---- the chain of SUPs as a relation

pub under_from : (s : SchemaModel) (k u t : ℕ) → walk s.types k u ≡ Some t → IsUnder s u t
under_from s zero u t h = subst (IsUnder s u) (some_same h) is_itself
under_from s (suc k) u t h = let z = stepped s.types k u t h in goes_up z.u z.goes (under_from s k z.u t z.rest)

pub from_under : (s : SchemaModel) {u t : ℕ} → IsUnder s u t → (k : ℕ) × (walk s.types k u ≡ Some t)
from_under s is_itself = (0, refl)
from_under s (goes_up {a} {c} b e rest) = let z = from_under s rest in (suc z.0, first_step s.types z.0 a b e ∙ z.1)
