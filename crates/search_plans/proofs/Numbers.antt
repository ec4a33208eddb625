-- What a plan says of an entry in scope is what its set says of the entry's number.
use Rattle.std.proofs.Common.{◌≡◌, ℕ, ◌<◌, inl, inr, Bool, true, false, ◌&&◌, ◌||◌, List, [], ◌∷◌, map, cond, nat_eq, refl, sym, ap, ap₂, ◌∙◌, eqb-true, eq-eqb, arith}
use mathlib.Core.Path.{fun_ext}
use Rattle.std.specs.Prelude.{filter}
use Rattle.std.specs.List.{AllByRecursion}
use Rattle.dir_index.specs.dir_entry.Entry.{KeyedAttribute}
use Rattle.dir_index.specs.index_choice.declared.kinds.Kinds.{Kinds}
use Rattle.dir_index.specs.index_choice.Choice.{kinds_of}
use Rattle.dir_index.specs.Postings.{Indexed, is_kept, is_listed, has_in_range, has_number, numbers_where, postings_of}
use Rattle.dir_index.specs.declared.posting.Posting.{Posting}
use Rattle.dir_index.specs.declared.posting.Range.{Range}
use Rattle.search_plans.specs.Sets.{holds, in_plan, is_in, AreNumbered, HasEntry}
use Rattle.search_plans.specs.declared.plan.Plan.{Plan}
use Rattle.search_plans.proofs.Rising.{differs as not_eq}

nat_eq_self : (n : ℕ) → nat_eq n n ≡ true
nat_eq_self n = eq-eqb n n refl

-- an entry above all that is looked for is not there
above : (n : ℕ) (es : List Indexed) (p : List KeyedAttribute → Bool) → AllByRecursion (λ y. n < y.number) es →
    has_number n (numbers_where p es) ≡ false
above n [] p h = refl
above n (x ∷ es) p h =
    elim (p x.entry) as (λ v. has_number n (map (λ y. y.number) (cond v (x ∷ filter (λ y. p y.entry) es)
    (filter (λ y. p y.entry) es))) ≡ false) [
      | true ↦ ap₂ (λ (a b : Bool). a || b) (not_eq n x.number h.0) (above n es p h.1)
      | false ↦ above n es p h.1
    ]

has_above : (n m : ℕ) (e : List KeyedAttribute) (es : List Indexed) → AllByRecursion (λ y. m < y.number) es →
    HasEntry es n e → m < n
has_above n m e [] h (k) = absurd k
has_above n m e (x ∷ es) h (inl k) = let is : x.number ≡ n = k.0 in let lt : m < x.number = h.0 in omega arith
has_above n m e (x ∷ es) h (inr k) = has_above n m e es h.1 k

other : (m n : ℕ) → m < n → nat_eq n m ≡ false
other m n h =
    (elim (nat_eq n m) as (λ v. nat_eq n m ≡ v → v ≡ false) [
      | true ↦ λ e. let same : n ≡ m = eqb-true n m e in absurd (omega arith)
      | false ↦ λ e. refl
    ]) refl

-- the numbers that pass, at an entry's number
pub number_passes : (p : List KeyedAttribute → Bool) (es : List Indexed) (n : ℕ) (e : List KeyedAttribute) →
    AreNumbered es → HasEntry es n e → has_number n (numbers_where p es) ≡ p e
number_passes p [] n e num has = absurd has
number_passes p (x ∷ es) n e num (inl k) =
    let first : has_number x.number (numbers_where p (x ∷ es)) ≡ p x.entry =
    (elim (p x.entry) as (λ v. has_number x.number (map (λ y. y.number) (cond v (x ∷ filter (λ y. p y.entry) es)
    (filter (λ y. p y.entry) es))) ≡ v) [
      | true ↦ ap (λ (b : Bool). b || has_number x.number (numbers_where p es)) (nat_eq_self x.number)
      | false ↦ above x.number es p num.0
    ]) in
    sym (ap (λ (m : ℕ). has_number m (numbers_where p (x ∷ es))) k.0) ∙ first ∙ ap p k.1
number_passes p (x ∷ es) n e num (inr k) =
    let later : nat_eq n x.number ≡ false = other x.number n (has_above n x.number e es num.0 k) in
    (elim (p x.entry) as (λ v. has_number n (map (λ y. y.number) (cond v (x ∷ filter (λ y. p y.entry) es)
    (filter (λ y. p y.entry) es))) ≡ p e) [
      | true ↦ ap (λ (b : Bool). b || has_number n (numbers_where p es)) later ∙ number_passes p es n e num.1 k
      | false ↦ number_passes p es n e num.1 k
    ])

pub is_in_holds : (ix : List Kinds) (es : List Indexed) (scope : List ℕ) (n : ℕ) (e : List KeyedAttribute)
    (p : Plan) → AreNumbered es → HasEntry es n e → has_number n scope ≡ true
    → is_in (postings_of ix es) scope p n ≡ holds ix e p
is_in_holds ix es scope n e p num has inside =
    let posting : Posting → Bool = λ y. has_number n ((postings_of ix es).posting y) in
    let range : Range → Bool = λ r. has_number n ((postings_of ix es).range r) in
    let posting' : Posting → Bool = λ y. is_kept ix y && is_listed y e in
    let range' : Range → Bool = λ r. (kinds_of ix r.type_id).ordering && has_in_range r e in
    let same : posting ≡ posting' = fun_ext (λ y. number_passes (λ d. is_kept ix y && is_listed y d) es n e num has) in
    let same' : range ≡ range' = fun_ext (λ r. number_passes (λ d. (kinds_of ix r.type_id).ordering
    && has_in_range r d) es n e num has) in
    ap (λ (b : Bool). in_plan b posting range p) inside ∙ ap₂ (λ (f : Posting → Bool) (g : Range → Bool). in_plan true
    f g p) same same'
