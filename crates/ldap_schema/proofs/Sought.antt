-- What halving finds among names in order, and what is added there.
use Rattle.std.proofs.Common.{ℕ, zero, suc, ◌+◌, ◌<◌, ◌≤◌, List, [], ◌∷◌, ◌++◌, Bool, true, false, cond, Option, None, Some, ◌≡◌, refl, ap, sym, subst, ◌∙◌, length, get_or, take, drop, ◌⊎◌, inl, inr, arith}
use Rattle.std.specs.List.{AllByRecursion, insert}
use Rattle.std.specs.List.Sorted.{IsNonDecreasingBy, IsPartitionPoint}
use Rattle.std.specs.Ordering.{ordering_index, is_lt}
use Rattle.std.specs.declared.cmp.Ordering.TheVariants.{Less, Equal, Greater}
use Rattle.std.specs.Str.{bytes_eq}
use Rattle.std.proofs.lemmas.Slice.Eq.{bytes_eq-Decides}
use Rattle.std.proofs.lemmas.Bool.{cases_lt}
use Rattle.std.proofs.lemmas.Cmp.{nat_list_cmp_total, nat_list_eq_equiv, alike_right}
use Rattle.std.proofs.lemmas.List.Sorted.{searchable_from_sorted}
use Rattle.std.proofs.lemmas.Map.{NonePasses, lookup-none, lookup-insert}
use Rattle.ldap_schema.specs.private.NameOrder.{order, number_at, kept_or, IsBefore, IsInOrder}
pub use Rattle.ldap_words.proofs.OctetOrder.{all_at, turned, turned_back, same_is, other_is, above_is}

abbrev pub Entries : Type 0
Entries = List (List ℕ × ℕ)

far : (es : Entries) → IsInOrder es → (i j : ℕ) (d : List ℕ × ℕ) → i < j → j < length es →
    IsBefore (get_or es i d) (get_or es j d)
far [] s i j d lt range = absurd (omega (arith, range))
far (e ∷ es) s i zero d lt range = absurd (omega (arith, lt))
far (e ∷ es) s zero (suc j) d lt range = all_at (IsBefore e) es j d (omega (arith, range)) s.0
far (e ∷ es) s (suc i) (suc j) d lt range = far es s.1 i j d (omega (arith, lt)) (omega (arith, range))

-- the comparisons with a name rise along the entries
pub rise : (es : Entries) (q : List ℕ) → IsInOrder es →
    IsNonDecreasingBy (λ (y : List ℕ × ℕ). ordering_index (order y.0 q)) es
rise es q s =
    searchable_from_sorted nat_list_cmp_total (λ (e : List ℕ × ℕ). e.0) es q
    (λ k d low range. ap is_lt (turned (get_or es k d).0 (get_or es (k + 1) d).0 (far es s k (k + 1) d (omega arith)
    range)))

-- a name that is equal at a place has the number there
pub found_at : (es : Entries) → IsInOrder es → (q : List ℕ) (i : ℕ) (d : List ℕ × ℕ) → i < length es →
    order (get_or es i d).0 q ≡ Equal → number_at es q ≡ Some (get_or es i d).1
found_at [] s q i d range h = absurd (omega (arith, range))
found_at (e ∷ es) s q zero d range h = ap (λ b. cond b (Some e.1) (number_at es q)) (same_is e.0 q h)
found_at (e ∷ es) s q (suc i) d range h =
    let at : List ℕ = (get_or es i d).0 in
    let before : order e.0 q ≡ Less = sym (alike_right nat_list_cmp_total at q e.0 h) ∙ all_at (IsBefore e) es i d
    (omega (arith, range)) s.0 in
    ap (λ b. cond b (Some e.1) (number_at es q)) (other_is e.0 q before)
    ∙ found_at es s.1 q i d (omega (arith, range)) h

none_at : (es : Entries) (q : List ℕ) → ((j : ℕ) (d : List ℕ × ℕ) → j < length es → bytes_eq q (get_or es j d).0 ≡
    false) → NonePasses (bytes_eq q) es
none_at [] q h = tt
none_at (e ∷ es) q h = (h 0 e (omega arith), none_at es q (λ j d lt. h (suc j) d (omega (arith, lt))))

split_at : (es : Entries) (q : List ℕ) (i : ℕ) → ((j : ℕ) (d : List ℕ × ℕ) → j < i → order (get_or es j d).0 q ≡ Less)
    → ((j : ℕ) (d : List ℕ × ℕ) → i ≤ j → j < length es → order (get_or es j d).0 q ≡ Greater) →
    (j : ℕ) (d : List ℕ × ℕ) → j < length es → (j < i) ⊎ (i ≤ j) → bytes_eq q (get_or es j d).0 ≡ false
split_at es q i low high j d range (inl lt) = other_is _ q (low j d lt)
split_at es q i low high j d range (inr le) = above_is _ q (high j d le range)

-- where halving ends between two names, the name is not there
pub record IsGap (es : Entries) (q : List ℕ) (i : ℕ) : Type 0 where
  pub within : i ≤ length es
  pub below : (j : ℕ) (d : List ℕ × ℕ) → j < i → order (get_or es j d).0 q ≡ Less
  pub above : (j : ℕ) (d : List ℕ × ℕ) → i ≤ j → j < length es → order (get_or es j d).0 q ≡ Greater

pub none_in_gap : (es : Entries) (q : List ℕ) (i : ℕ) → IsGap es q i → NonePasses (bytes_eq q) es
none_in_gap es q i g = none_at es q (λ j d lt. split_at es q i g.below g.above j d lt (cases_lt j i))

-- put into a gap, a name keeps the order
all_back : (P : List ℕ × ℕ → Type 0) (es : Entries) (i : ℕ) (e : List ℕ × ℕ) → AllByRecursion P es → P e →
    AllByRecursion P (take i es ++ e ∷ drop i es)
all_back P es zero e all one = (one, all)
all_back P [] (suc i) e all one = (one, tt)
all_back P (x ∷ es) (suc i) e all one = (all.0, all_back P es i e all.1 one)

all_above : (es : Entries) (e : List ℕ × ℕ) → ((j : ℕ) (d : List ℕ × ℕ) → j < length es →
    order (get_or es j d).0 e.0 ≡ Greater) → AllByRecursion (IsBefore e) es
all_above [] e h = tt
all_above (x ∷ es) e h = (
  turned_back x.0 e.0 (h 0 x (omega arith)),
  all_above es e (λ j d lt. h (suc j) d
      (omega (arith, lt))),
)

pub in_order_put : (es : Entries) (i : ℕ) (e : List ℕ × ℕ) → IsInOrder es → IsGap es e.0 i → IsInOrder (insert es i e)
in_order_put es zero e s g = (all_above es e (λ j d lt. g.above j d (omega arith) lt), s)
in_order_put [] (suc i) e s g = absurd (omega (arith, g.within))
in_order_put (x ∷ es) (suc i) e s g = (
  all_back (IsBefore x) es i e s.0 (g.below 0 x (omega arith)),
  in_order_put es i e s.1 (record {
    within = omega (arith, g.within);
    below = λ j d lt. g.below (suc j) d (omega (arith, lt));
    above = λ j d le lt. g.above (suc j) d (omega (arith, le)) (omega (arith, lt));
  }),
)

-- what there is afterwards
kept_false : (o : Option ℕ) (v : ℕ) → o ≡ kept_or o false v
kept_false None v = refl
kept_false (Some m) v = refl

put_by : (es : Entries) (k q : List ℕ) (v : ℕ) (b : Bool) → bytes_eq k q ≡ b → NonePasses (bytes_eq k) es →
    cond (bytes_eq k q) (Some v) (number_at es q) ≡ kept_or (number_at es q) (bytes_eq q k) v
put_by es k q v true e none =
    let same : k ≡ q = (bytes_eq-Decides k q).0 e in
    let nothing : number_at es q ≡ None = ap (number_at es) (sym same) ∙ lookup-none (bytes_eq k) es none in
    ap (λ b. cond b (Some v) (number_at es q)) e ∙ sym (ap (λ o. kept_or o (bytes_eq q k) v) nothing
    ∙ ap (λ b. cond b (Some v) None) (nat_list_eq_equiv.symm q k ∙ e))
put_by es k q v false e none =
    ap (λ b. cond b (Some v) (number_at es q)) e ∙ kept_false (number_at es q) v
    ∙ ap (λ b. kept_or (number_at es q) b v) (sym (nat_list_eq_equiv.symm q k ∙ e))

pub put_there : (es : Entries) (i : ℕ) (k : List ℕ) (v : ℕ) → IsGap es k i → (q : List ℕ) →
    number_at (insert es i (k, v)) q ≡ kept_or (number_at es q) (bytes_eq q k) v
put_there es i k v g q =
    let none = none_in_gap es k i g in
    lookup-insert nat_list_eq_equiv k v q es i none ∙ put_by es k q v (bytes_eq k q) refl none

kept_some : (o : Option ℕ) (m : ℕ) (b : Bool) (v : ℕ) → o ≡ Some m → o ≡ kept_or o b v
kept_some None m b v h = cc
kept_some (Some n) m b v h = refl

kept_by : (es : Entries) (k q : List ℕ) (v m : ℕ) (b : Bool) → bytes_eq q k ≡ b → number_at es k ≡ Some m →
    number_at es q ≡ kept_or (number_at es q) (bytes_eq q k) v
kept_by es k q v m true e h = kept_some (number_at es q) m (bytes_eq q k) v
    (ap (number_at es) ((bytes_eq-Decides q k).0 e) ∙ h)
kept_by es k q v m false e h = kept_false (number_at es q) v ∙ ap (λ b. kept_or (number_at es q) b v) (sym e)

pub kept_there : (es : Entries) (k : List ℕ) (v m : ℕ) → number_at es k ≡ Some m → (q : List ℕ) → number_at es q ≡
    kept_or (number_at es q) (bytes_eq q k) v
kept_there es k v m h q = kept_by es k q v m (bytes_eq q k) refl h

-- what halving answers, of the entries as a slice
pub gap_of : (es slice : Entries) → slice ≡ es → IsInOrder es → (q : List ℕ) (i : ℕ) → i ≤ length slice
    → (IsNonDecreasingBy (λ (y : List ℕ × ℕ). ordering_index (order y.0 q)) slice →
    IsPartitionPoint (λ (y : List ℕ × ℕ). order y.0 q ≡ Less) (λ (y : List ℕ × ℕ). order y.0 q ≡ Greater) slice i)
    → IsGap es q i
gap_of es slice e s q i range h =
    let split : IsPartitionPoint (λ (y : List ℕ × ℕ). order y.0 q ≡ Less) (λ (y : List ℕ × ℕ). order y.0 q ≡ Greater)
    es i =
    subst (λ (x : Entries). IsPartitionPoint (λ (y : List ℕ × ℕ). order y.0 q ≡ Less) (λ (y : List ℕ × ℕ). order y.0
    q ≡ Greater) x i) e
    (h (subst (λ (x : Entries). IsNonDecreasingBy (λ (y : List ℕ × ℕ). ordering_index (order y.0 q)) x) (sym e)
    (rise es q s))) in
    record {
      within = subst (λ (x : Entries). i ≤ length x) e range;
      below = λ j d lt. split.0 j d (omega arith) lt;
      above = λ j d le lt. split.1 j d le lt;
    }

pub number_found : (es slice : Entries) → slice ≡ es → IsInOrder es → (q : List ℕ) (i : ℕ) (d : List ℕ × ℕ) →
    i < length slice → ((f : List ℕ × ℕ) → order (get_or slice i f).0 q ≡ Equal) → number_at es q ≡
    Some (get_or es i d).1
number_found es slice e s q i d range h =
    found_at es s q i d (subst (λ (x : Entries). i < length x) e range)
    (ap (λ (x : Entries). order (get_or x i d).0 q) (sym e) ∙ h d)

pub number_missing : (es : Entries) (q : List ℕ) (i : ℕ) → IsGap es q i → None ≡ number_at es q
number_missing es q i g = sym (lookup-none (bytes_eq q) es (none_in_gap es q i g))
