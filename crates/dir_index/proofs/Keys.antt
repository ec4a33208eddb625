-- Keys of lists: when two are one, and what lies between two.
use Rattle.std.proofs.Common.{◌≡◌, ℕ, ◌<◌, Bool, true, false, cond, not, List, [], ◌∷◌, Option, Some, None, Ordering, refl, sym, ap, ◌∙◌, subst, nat_eq, arith, inl, inr}
use Rattle.std.specs.Prelude.{◌&&◌, ◌||◌, ◌⊎◌, nat_lt}
use Rattle.std.specs.Ordering.{is_gt, is_lt, is_eq, nat_cmp, ordering_then, ordering_reverse}
use Rattle.std.specs.Cmp.{nat_cmp_total, tied_itself}
use Rattle.std.specs.Cmp.Lexicographic.{slice_cmp, nat_list_cmp_total, texts_ties}
use Rattle.std.specs.Str.{bytes_eq}
use Rattle.std.proofs.lemmas.Cmp.{ranked, upto as le_trans}
use Rattle.std.proofs.lemmas.Bool.{cases_order, eqb-true, eq-eqb, ne_eqb, lt-ltb, le-ltb, and_parts, and_from}
use Rattle.std.proofs.lemmas.Slice.Eq.{bytes_eq-Decides}
use Rattle.index_choice.specs.dir_entry.ldap_syntax.Meaning.{is_before}
use Rattle.index_choice.specs.dir_entry.ldap_match.Keyed.{is_key_at_least, is_key_at_most}
use Rattle.dir_index.specs.declared.list_key.ListKey.{ListKey}
use Rattle.dir_index.specs.declared.posting.Range.{Range}
use Rattle.dir_index.specs.ListKeys.{list_order, is_same_list}
use Rattle.dir_index.specs.private.ListKeys.{is_list_in, range_start, or_nothing}
use Rattle.dir_index.specs.OrderLaws.{list_ties}
use Rattle.dir_index.specs.Postings.{in_range, is_from, is_upto}

pub by_bool : {P : Type 0} (b : Bool) → (b ≡ true → P) → (b ≡ false → P) → P
by_bool true p q = p refl
by_bool false p q = q refl

pub by_ordering : {P : Type 0} (r : Ordering) → (r ≡ Ordering.Less → P) → (r ≡ Ordering.Equal → P) →
    (r ≡ Ordering.Greater → P) → P
by_ordering Ordering.Less p q s = p refl
by_ordering Ordering.Equal p q s = q refl
by_ordering Ordering.Greater p q s = s refl

-- keys that are the same by the test are one
pub one_list : (j k : ListKey) → is_same_list j k ≡ true → j ≡ k
one_list j k e =
    let p = and_parts (nat_eq j.type_id k.type_id) (nat_eq j.rank k.rank && bytes_eq j.octets k.octets) e in
    let q = and_parts (nat_eq j.rank k.rank) (bytes_eq j.octets k.octets) p.1 in
    let a = eqb-true j.type_id k.type_id p.0 in
    let b = eqb-true j.rank k.rank q.0 in
    let o = (bytes_eq-Decides j.octets k.octets).0 q.1 in
    λ i. record { type_id = a i; rank = b i; octets = o i }

-- keys that the order doesn't tell apart are one
pub one_by_order : (j k : ListKey) → list_order j k ≡ Ordering.Equal → j ≡ k
one_by_order j k e = one_list j k (list_ties j k ∙ ap is_eq e)

-- ---- keys of values

-- the order of keys, as std has it and as it is defined
less_is : (x y : ℕ) → x < y → nat_cmp x y ≡ Ordering.Less
less_is x y l = ap (λ (b : Bool). cond b Ordering.Less (cond (nat_eq x y) Ordering.Equal Ordering.Greater))
    (lt-ltb x y l)

more_is : (x y : ℕ) → y < x → nat_cmp x y ≡ Ordering.Greater
more_is x y l =
    ap (λ (b : Bool). cond b Ordering.Less (cond (nat_eq x y) Ordering.Equal Ordering.Greater))
    (le-ltb x y (omega arith))
    ∙ ap (λ (b : Bool). cond b Ordering.Equal Ordering.Greater) (ne_eqb x y (λ e. absurd (omega arith)))

before_gt : (a b : List ℕ) → is_gt (slice_cmp nat_cmp b a) ≡ is_before a b
before_gt [] [] = refl
before_gt [] (y ∷ ys) = refl
before_gt (x ∷ xs) [] = refl
before_gt (x ∷ xs) (y ∷ ys) = elim (cases_order x y)
    as (λ v. is_gt (ordering_then (nat_cmp y x) (slice_cmp nat_cmp ys xs)) ≡
    (nat_lt x y || (nat_eq x y && is_before xs ys))) [
      | inl e ↦ ap (λ (o : Ordering). is_gt (ordering_then o (slice_cmp nat_cmp ys xs)))
          (subst (λ (z : ℕ). nat_cmp y z ≡ Ordering.Equal) (sym e) (tied_itself nat_cmp_total y)) ∙ before_gt xs ys
          ∙ ap (λ (b : Bool). b && is_before xs ys) (sym (eq-eqb x y e))
          ∙ ap (λ (b : Bool). b || (nat_eq x y && is_before xs ys)) (sym (le-ltb x y (omega arith)))
      | inr w ↦ elim w as (λ v. is_gt (ordering_then (nat_cmp y x) (slice_cmp nat_cmp ys xs)) ≡
          (nat_lt x y || (nat_eq x y && is_before xs ys))) [
            | inl l ↦ ap (λ (o : Ordering). is_gt (ordering_then o (slice_cmp nat_cmp ys xs))) (more_is y x l)
                ∙ ap (λ (b : Bool). b || (nat_eq x y && is_before xs ys)) (sym (lt-ltb x y l))
            | inr l ↦ ap (λ (o : Ordering). is_gt (ordering_then o (slice_cmp nat_cmp ys xs))) (less_is y x l)
                ∙ ap (λ (b : Bool). b && is_before xs ys) (sym (ne_eqb x y (λ e. absurd (omega arith))))
                ∙ ap (λ (b : Bool). b || (nat_eq x y && is_before xs ys)) (sym (le-ltb x y (omega arith)))
          ]
    ]

pub before_lt : (a b : List ℕ) → is_before a b ≡ is_lt (slice_cmp nat_cmp a b)
before_lt a b = sym (before_gt a b) ∙ ap is_gt (nat_list_cmp_total.antisymm b a) ∙ back (slice_cmp nat_cmp a b)
  where
    back : (o : Ordering) → is_gt (ordering_reverse o) ≡ is_lt o
    back Ordering.Less = refl
    back Ordering.Equal = refl
    back Ordering.Greater = refl

pub at_least_is : (f x : List ℕ) → is_key_at_least f x ≡ not (is_lt (slice_cmp nat_cmp x f))
at_least_is f x = ap not (before_lt x f)

pub at_most_is : (u x : List ℕ) → is_key_at_most u x ≡ not (is_gt (slice_cmp nat_cmp x u))
at_most_is u x = ap (λ (b : Bool). b || bytes_eq x u) (before_lt x u)
    ∙ ap (λ (b : Bool). is_lt (slice_cmp nat_cmp x u) || b) (texts_ties x u) ∙ either (slice_cmp nat_cmp x u)
  where
    either : (o : Ordering) → (is_lt o || is_eq o) ≡ not (is_gt o)
    either Ordering.Less = refl
    either Ordering.Equal = refl
    either Ordering.Greater = refl

-- the same the other way round
pub at_most_turned : (u x : List ℕ) → is_key_at_most u x ≡ not (is_before u x)
at_most_turned u x = at_most_is u x ∙ ap not (before_gt u x)

-- ---- what lies between

pub not_true : (b : Bool) → b ≡ true → b ≡ false → ⊥
not_true b e f = let h : true ≡ false = sym e ∙ f in cc

then_less : (x y : ℕ) (o : Ordering) → ordering_then (nat_cmp x y) o ≡ Ordering.Less → (x < y)
    ⊎ ((x ≡ y) × (o ≡ Ordering.Less))
then_less x y o h = by_ordering (nat_cmp x y)
    (λ e. inl (ranked x y Ordering.Less (sym e)))
    (λ e. inr (ranked x y Ordering.Equal (sym e), sym (ap (λ r. ordering_then r o) e) ∙ h))
    (λ e. let g : Ordering.Greater ≡ Ordering.Less = sym (ap (λ r. ordering_then r o) e) ∙ h in cc)

-- of three keys in order, where the outer two are of one type and rank, so is the middle one
record IsBetween (t n : ℕ) (a y : List ℕ) (k : ListKey) : Type 0 where
  of_type : k.type_id ≡ t
  of_rank : k.rank ≡ n
  above : slice_cmp nat_cmp a k.octets ≡ Ordering.Less
  below : slice_cmp nat_cmp k.octets y ≡ Ordering.Less

between : (t n : ℕ) (a y : List ℕ) (k : ListKey) → list_order (record { type_id = t; rank = n; octets = a }) k ≡
    Ordering.Less → list_order k (record { type_id = t; rank = n; octets = y }) ≡ Ordering.Less → IsBetween t n a y k
between t n a y k h g =
    elim (then_less t k.type_id (ordering_then (nat_cmp n k.rank) (slice_cmp nat_cmp a k.octets)) h) [
      | inl l ↦ elim (then_less k.type_id t (ordering_then (nat_cmp k.rank n) (slice_cmp nat_cmp k.octets y)) g)
          [ inl m ↦ absurd (omega arith) | inr m ↦ let e = m.0 in absurd (omega arith) ]
      | inr l ↦ elim (then_less k.type_id t (ordering_then (nat_cmp k.rank n) (slice_cmp nat_cmp k.octets y)) g) [
        | inl m ↦ let e = l.0 in absurd (omega arith)
        | inr m ↦ elim (then_less n k.rank (slice_cmp nat_cmp a k.octets) l.1) [
          | inl u ↦ elim (then_less k.rank n (slice_cmp nat_cmp k.octets y) m.1)
              [ inl v ↦ absurd (omega arith) | inr v ↦ let e = v.0 in absurd (omega arith) ]
          | inr u ↦ elim (then_less k.rank n (slice_cmp nat_cmp k.octets y) m.1) [
            | inl v ↦ let e = u.0 in absurd (omega arith)
            | inr v ↦ record { of_type = m.0; of_rank = v.0; above = u.1; below = v.1 }
          ]
        ]
      ]
    ]

-- what a key in a range is
pub record IsListIn (r : Range) (k : ListKey) : Type 0 where
  pub of_type : k.type_id ≡ r.type_id
  pub of_rank : k.rank ≡ 2
  pub from : is_from r.from k.octets ≡ true
  pub upto : is_upto r.upto k.octets ≡ true

pub list_in : (r : Range) (k : ListKey) → is_list_in r k ≡ true → IsListIn r k
list_in r k h =
    let p = and_parts (nat_eq k.type_id r.type_id) (nat_eq k.rank 2 && in_range r k.octets) h in
    let q = and_parts (nat_eq k.rank 2) (in_range r k.octets) p.1 in
    let s = and_parts (is_from r.from k.octets) (is_upto r.upto k.octets) q.1 in
    record { of_type = eqb-true k.type_id r.type_id p.0; of_rank = eqb-true k.rank 2 q.0; from = s.0; upto = s.1 }

pub in_list : (r : Range) (k : ListKey) → k.type_id ≡ r.type_id → k.rank ≡ 2 → is_from r.from k.octets ≡ true →
    is_upto r.upto k.octets ≡ true → is_list_in r k ≡ true
in_list r k t n f u = and_from (nat_eq k.type_id r.type_id) (nat_eq k.rank 2 && in_range r k.octets)
    (eq-eqb k.type_id r.type_id t)
    (and_from (nat_eq k.rank 2) (in_range r k.octets) (eq-eqb k.rank 2 n) (and_from (is_from r.from k.octets)
    (is_upto r.upto k.octets) f u))

-- octets above the start are not below it
from_above : (o : Option (List ℕ)) (x : List ℕ) → slice_cmp nat_cmp (or_nothing o) x ≡ Ordering.Less → is_from o x ≡
    true
from_above None x h = refl
from_above (Some f) x h = at_least_is f x ∙ ap (λ s. not (is_lt s)) (nat_list_cmp_total.antisymm x f
    ∙ ap ordering_reverse h)

none_below_nothing : (x : List ℕ) → slice_cmp nat_cmp x [] ≡ Ordering.Less → ⊥
none_below_nothing [] h = cc
none_below_nothing (y ∷ ys) h = cc

-- octets below the start are not from it on
from_below : (o : Option (List ℕ)) (x : List ℕ) → slice_cmp nat_cmp x (or_nothing o) ≡ Ordering.Less → is_from o x ≡
    true → ⊥
from_below None x h g = none_below_nothing x h
from_below (Some f) x h g = not_true (is_from (Some f) x) g (at_least_is f x ∙ ap (λ s. not (is_lt s)) h)

-- octets below some that are up to the end are up to the end
upto_below : (o : Option (List ℕ)) (x y : List ℕ) → slice_cmp nat_cmp x y ≡ Ordering.Less → is_upto o y ≡ true →
    is_upto o x ≡ true
upto_below None x y h g = refl
upto_below (Some u) x y h g = at_most_is u x ∙ ap not (le_trans nat_list_cmp_total x y u (ap is_gt h)
    (off (is_gt (slice_cmp nat_cmp y u)) (sym (at_most_is u y) ∙ g)))
  where
    off : (b : Bool) → not b ≡ true → b ≡ false
    off true e = sym e
    off false e = refl

-- a key between the start of a range and one of its keys is one of its keys
in_between : (r : Range) (k q : ListKey) → list_order (range_start r) k ≡ Ordering.Less → list_order k q ≡
    Ordering.Less → is_list_in r q ≡ true → is_list_in r k ≡ true
in_between r k q h g e =
    let i = list_in r q e in
    let q' : ListKey = record { type_id = r.type_id; rank = 2; octets = q.octets } in
    let same : q ≡ q' = λ j. record { type_id = i.of_type j; rank = i.of_rank j; octets = q.octets } in
    let b = between r.type_id 2 (or_nothing r.from) q.octets k h
    (subst (λ (x : ListKey). list_order k x ≡ Ordering.Less) same g) in
    in_list r k b.of_type b.of_rank (from_above r.from k.octets b.above) (upto_below r.upto k.octets q.octets b.below
    i.upto)

-- behind a key that is behind the start and not in the range there is none
pub past : (r : Range) (k q : ListKey) → list_order (range_start r) k ≡ Ordering.Less → is_list_in r k ≡ false →
    list_order k q ≡ Ordering.Less → is_list_in r q ≡ false
past r k q h n g = by_bool (is_list_in r q) (λ e. absurd (not_true (is_list_in r k) (in_between r k q h g e) n))
    (λ e. e)

-- before the start there is none
pub early : (r : Range) (k : ListKey) → list_order k (range_start r) ≡ Ordering.Less → is_list_in r k ≡ false
early r k h = by_bool (is_list_in r k)
    (λ e.
    let i = list_in r k e in
    elim (then_less k.type_id r.type_id (ordering_then (nat_cmp k.rank 2)
    (slice_cmp nat_cmp k.octets (or_nothing r.from))) h) [
      | inl l ↦ let t = i.of_type in absurd (omega arith)
      | inr l ↦ elim (then_less k.rank 2 (slice_cmp nat_cmp k.octets (or_nothing r.from)) l.1) [
        | inl u ↦ let t = i.of_rank in absurd (omega arith)
        | inr u ↦ absurd (from_below r.from k.octets u.1 i.from)
      ]
    ])
    (λ e. e)

-- the start is in the range where its octets are
pub start_in : (r : Range) → is_list_in r (range_start r) ≡ in_range r (or_nothing r.from)
start_in r = ap (λ (b : Bool). b && in_range r (or_nothing r.from)) (eq-eqb r.type_id r.type_id refl)
