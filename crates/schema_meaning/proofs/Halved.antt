-- What halving finds among octets in order.
use Rattle.std.proofs.Common.{ℕ, zero, suc, ◌+◌, ◌<◌, ◌≤◌, List, [], ◌∷◌, false, cond, None, Some, ◌≡◌, refl, ap, sym, subst, ◌∙◌, Vec, Global, length, get_or, ◌⊎◌, inl, inr, arith}
use Rattle.std.specs.List.{AllByRecursion}
use Rattle.std.specs.List.Sorted.{IsNonDecreasingBy, IsPartitionPoint, IsStrictlySortedBy}
use Rattle.std.specs.Ordering.{ordering_index, is_lt, nat_cmp}
use Rattle.std.specs.Cmp.Lexicographic.{slice_cmp}
use Rattle.std.specs.Map.{keys_of}
use Rattle.std.specs.declared.cmp.Ordering.TheVariants.{Less, Equal, Greater}
use Rattle.std.specs.Str.{bytes_eq}
use Rattle.std.proofs.lemmas.Bool.{cases_lt}
use Rattle.std.proofs.lemmas.Cmp.{nat_list_cmp_total, alike_right}
use Rattle.std.proofs.lemmas.List.Sorted.{searchable_from_sorted}
use Rattle.schema_meaning.specs.private.Octets.{order, number_at, IsBefore, IsInOrder}
pub use Rattle.schema_text.proofs.ldap_words.OctetOrder.{all_at, turned, same_is, other_is, above_is}

abbrev pub Entries : Type 0
Entries = List (Vec ℕ Global × ℕ)

-- the order of a map's keys
keys_behind : (e : Vec ℕ Global × ℕ) (es : Entries) → AllByRecursion (λ (y : Vec ℕ Global). slice_cmp nat_cmp
    e.0.items y.items ≡ Less) (keys_of es) → AllByRecursion (IsBefore e) es
keys_behind e [] h = tt
keys_behind e (x ∷ es) h = (h.0, keys_behind e es h.1)

pub in_order_of_keys : (es : Entries) → IsStrictlySortedBy (λ (a b : Vec ℕ Global). slice_cmp nat_cmp a.items b.items)
    (keys_of es) → IsInOrder es
unfolding IsStrictlySortedBy
in_order_of_keys [] s = tt
in_order_of_keys (e ∷ es) s = (keys_behind e es s.0, in_order_of_keys es s.1)

far : (es : Entries) → IsInOrder es → (i j : ℕ) (d : Vec ℕ Global × ℕ) → i < j → j < length es →
    IsBefore (get_or es i d) (get_or es j d)
far [] s i j d lt range = absurd (omega (arith, range))
far (e ∷ es) s i zero d lt range = absurd (omega (arith, lt))
far (e ∷ es) s zero (suc j) d lt range = all_at (IsBefore e) es j d (omega (arith, range)) s.0
far (e ∷ es) s (suc i) (suc j) d lt range = far es s.1 i j d (omega (arith, lt)) (omega (arith, range))

-- the comparisons with a name rise along the entries
rise : (es : Entries) (q : List ℕ) → IsInOrder es → IsNonDecreasingBy (λ (y : Vec ℕ Global × ℕ). ordering_index
    (order y.0.items q)) es
rise es q s =
    searchable_from_sorted nat_list_cmp_total (λ (e : Vec ℕ Global × ℕ). e.0.items) es q
    (λ k d low range. ap is_lt (turned (get_or es k d).0.items (get_or es (k + 1) d).0.items
    (far es s k (k + 1) d (omega arith) range)))

-- octets that are equal at a place have the number there
found_at : (es : Entries) → IsInOrder es → (q : List ℕ) (i : ℕ) (d : Vec ℕ Global × ℕ) → i < length es →
    order (get_or es i d).0.items q ≡ Equal → number_at es q ≡ Some (get_or es i d).1
found_at [] s q i d range h = absurd (omega (arith, range))
found_at (e ∷ es) s q zero d range h = ap (λ b. cond b (Some e.1) (number_at es q)) (same_is e.0.items q h)
found_at (e ∷ es) s q (suc i) d range h =
    let at : List ℕ = (get_or es i d).0.items in
    let before : order e.0.items q ≡ Less = sym (alike_right nat_list_cmp_total at q e.0.items h)
    ∙ all_at (IsBefore e) es i d (omega (arith, range)) s.0 in
    ap (λ b. cond b (Some e.1) (number_at es q)) (other_is e.0.items q before)
    ∙ found_at es s.1 q i d (omega (arith, range)) h

none_at : (es : Entries) (q : List ℕ) → ((j : ℕ) (d : Vec ℕ Global × ℕ) → j < length es →
    bytes_eq q (get_or es j d).0.items ≡ false) → number_at es q ≡ None
none_at [] q h = refl
none_at (e ∷ es) q h = ap (λ b. cond b (Some e.1) (number_at es q)) (h 0 e (omega arith))
    ∙ none_at es q (λ j d lt. h (suc j) d (omega (arith, lt)))

split_at : (es : Entries) (q : List ℕ) (i : ℕ) → ((j : ℕ) (d : Vec ℕ Global × ℕ) → j < i →
    order (get_or es j d).0.items q ≡ Less)
    → ((j : ℕ) (d : Vec ℕ Global × ℕ) → i ≤ j → j < length es → order (get_or es j d).0.items q ≡ Greater) →
    (j : ℕ) (d : Vec ℕ Global × ℕ) → j < length es → (j < i) ⊎ (i ≤ j) → bytes_eq q (get_or es j d).0.items ≡ false
split_at es q i low high j d range (inl lt) = other_is _ q (low j d lt)
split_at es q i low high j d range (inr le) = above_is _ q (high j d le range)

-- what halving answers, of the entries as a slice
pub number_found : (es slice : Entries) → slice ≡ es → IsInOrder es → (q : List ℕ) (i : ℕ) (d : Vec ℕ Global × ℕ) →
    i < length slice → ((f : Vec ℕ Global × ℕ) → order (get_or slice i f).0.items q ≡ Equal) → number_at es q ≡
    Some (get_or es i d).1
number_found es slice e s q i d range h =
    found_at es s q i d (subst (λ (x : Entries). i < length x) e range)
    (ap (λ (x : Entries). order (get_or x i d).0.items q) (sym e) ∙ h d)

pub number_missing : (es slice : Entries) → slice ≡ es → IsInOrder es → (q : List ℕ) (i : ℕ) → i ≤ length slice
    → (IsNonDecreasingBy (λ (y : Vec ℕ Global × ℕ). ordering_index (order y.0.items q)) slice →
    IsPartitionPoint (λ (y : Vec ℕ Global × ℕ). order y.0.items q ≡ Less) (λ (y : Vec ℕ Global × ℕ).
    order y.0.items q ≡ Greater) slice i)
    → None ≡ number_at es q
number_missing es slice e s q i range h =
    let split : IsPartitionPoint (λ (y : Vec ℕ Global × ℕ). order y.0.items q ≡ Less) (λ (y : Vec ℕ Global × ℕ).
    order y.0.items q ≡ Greater) es i =
    subst (λ (x : Entries). IsPartitionPoint (λ (y : Vec ℕ Global × ℕ). order y.0.items q ≡ Less)
    (λ (y : Vec ℕ Global × ℕ). order y.0.items q ≡ Greater) x i) e
    (h (subst (λ (x : Entries). IsNonDecreasingBy (λ (y : Vec ℕ Global × ℕ). ordering_index (order y.0.items q)) x)
    (sym e) (rise es q s))) in
    sym (none_at es q (λ j d lt. split_at es q i (λ m f low. split.0 m f (omega arith) low)
    (λ m f le high. split.1 m f le high) j d lt (cases_lt j i)))
