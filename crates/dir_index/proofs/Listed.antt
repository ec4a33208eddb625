-- The lists of entries: which numbers are in them, and what they are after the entries change.
use Rattle.std.proofs.Common.{◌≡◌, ℕ, ◌<◌, ◌≤◌, Bool, true, false, cond, not, List, [], ◌∷◌, ◌++◌, map, refl, sym, ap, ◌∙◌, subst, nat_eq, arith, inl, inr}
use Rattle.std.specs.Prelude.{◌&&◌, ◌||◌, ◌⊎◌}
use Rattle.std.specs.List.{list_any, AllByRecursion, filter}
use Rattle.std.proofs.lemmas.Bool.{cases_order, cases_eq, eqb-true, eq-eqb, ne_eqb, or_right}
use Rattle.std.proofs.lemmas.List.Folds.{list_any-append}
use Rattle.index_choice.specs.dir_entry.Entry.{KeyedAttribute}
use Rattle.index_choice.specs.declared.kinds.Kinds.{Kinds}
use Rattle.dir_index.specs.declared.posting.Posting.{Posting}
use Rattle.dir_index.specs.Postings.{Indexed, has_number, IsRising, numbers_where, is_kept, is_listed}
use Rattle.dir_index.specs.ListKeys.{key_of}
use Rattle.dir_index.specs.Stored.{ListRows, list_at}
use Rattle.dir_index.specs.private.Stored.{is_in, AllRise}
use Rattle.dir_index.specs.private.Marked.{lists_entry}
use Rattle.dir_index.specs.Whole.{PostingsModel, AreOf, AllBelow, HasEntry, without, with_attributes}
use Rattle.dir_index.specs.private.Whole.{moved}
use Rattle.dir_index.proofs.Marking.{entry_none}

-- nothing below the first of a rising list is in it
pub none_above : (x n : ℕ) (xs : List ℕ) → AllByRecursion (λ y. x < y) xs → n ≤ x → has_number n xs ≡ false
none_above x n [] a h = refl
none_above x n (y ∷ ys) a h = let l : x < y = a.0 in ap (λ (b : Bool). b || has_number n ys)
    (ne_eqb n y (λ e. absurd (omega arith))) ∙ none_above x n ys a.1 h

-- ---- rising lists with the same numbers

pub one_way : (a b : Bool) → (a ≡ true → b ≡ true) → (b ≡ true → a ≡ true) → a ≡ b
one_way true true f g = refl
one_way true false f g = sym (f refl)
one_way false true f g = g refl
one_way false false f g = refl

has_head : (x : ℕ) (xs : List ℕ) → has_number x (x ∷ xs) ≡ true
has_head x xs = ap (λ (b : Bool). b || has_number x xs) (eq-eqb x x refl)

not_below : (x y : ℕ) (ys : List ℕ) → AllByRecursion (λ z. y < z) ys → x < y → has_number x (y ∷ ys) ≡ false
not_below x y ys a l = ap (λ (b : Bool). b || has_number x ys) (ne_eqb x y (λ e. absurd (omega arith)))
    ∙ none_above y x ys a (omega arith)

same_heads : (x y : ℕ) (xs ys : List ℕ) → IsRising (x ∷ xs) → IsRising (y ∷ ys) →
    ((n : ℕ) → has_number n (x ∷ xs) ≡ has_number n (y ∷ ys)) → x ≡ y
same_heads x y xs ys r s h = elim (cases_order x y) as (λ v. x ≡ y) [
  | inl e ↦ e
  | inr w ↦ elim w as (λ v. x ≡ y) [
    | inl l ↦ absurd (apart (sym (has_head x xs) ∙ h x ∙ not_below x y ys s.0 l))
    | inr l ↦ absurd (apart
        (sym (has_head y ys) ∙ sym (h y) ∙ not_below y x xs r.0 l))
  ]
]
  where
    apart : true ≡ false → ⊥
    apart e = cc

pub rising_same : (xs ys : List ℕ) → IsRising xs → IsRising ys → ((n : ℕ) → has_number n xs ≡ has_number n ys) → xs ≡ ys
rising_same [] [] r s h = refl
rising_same [] (y ∷ ys) r s h = absurd (apart (h y ∙ has_head y ys))
  where
    apart : false ≡ true → ⊥
    apart e = cc
rising_same (x ∷ xs) [] r s h = absurd (apart (sym (h x) ∙ has_head x xs))
  where
    apart : false ≡ true → ⊥
    apart e = cc
rising_same (x ∷ xs) (y ∷ ys) r s h =
    let e : x ≡ y = same_heads x y xs ys r s h in
    let rest : xs ≡ ys = rising_same xs ys r.1 s.1 (λ n. tails x n e (cases_eq n x)) in
    cc (e, rest)
  where
    tails : (x' n : ℕ) → x ≡ y → (n ≡ x) ⊎ (n ≡ x → ⊥) → has_number n xs ≡ has_number n ys
    tails x' n e (inl k) = none_above x n xs r.0 (omega arith) ∙ sym (none_above y n ys s.0 (omega arith))
    tails x' n e (inr k) =
        ap (λ (b : Bool). b || has_number n xs) (sym (ne_eqb n x k)) ∙ h n ∙ ap (λ (b : Bool). b || has_number n ys)
        (ne_eqb n y (λ g. k (g ∙ sym e)))

-- ---- which numbers are listed

-- whether an entry of the number passes
abbrev pub found : (List KeyedAttribute → Bool) → ℕ → List Indexed → Bool
found q m es = list_any (λ e. nat_eq m e.number && q e.entry) es

pub number_found : (q : List KeyedAttribute → Bool) (m : ℕ) (es : List Indexed) → has_number m (numbers_where q es) ≡
    found q m es
number_found q m [] = refl
number_found q m (e ∷ es) = pick (q e.entry) (number_found q m es)
  where
    pick : (b : Bool) → has_number m (numbers_where q es) ≡ found q m es
        → has_number m (map (λ x. x.number) (cond b (e ∷ filter (λ x. q x.entry) es) (filter (λ x. q x.entry) es))) ≡
        ((nat_eq m e.number && b) || found q m es)
    pick true h = ap (λ (b : Bool). nat_eq m e.number || b) h ∙ ap (λ (b : Bool). b || found q m es)
        (sym (flat (nat_eq m e.number)))
      where
        flat : (b : Bool) → (b && true) ≡ b
        flat true = refl
        flat false = refl
    pick false h = h ∙ ap (λ (b : Bool). b || found q m es) (sym (none (nat_eq m e.number)))
      where
        none : (b : Bool) → (b && false) ≡ false
        none true = refl
        none false = refl

above_filtered : (t : Indexed → Bool) (x : ℕ) (es : List Indexed) → AllByRecursion (λ y. x < y)
    (map (λ e. e.number) es) → AllByRecursion (λ y. x < y) (map (λ e. e.number) (filter t es))
above_filtered t x [] h = tt
above_filtered t x (e ∷ es) h = pick (t e) (above_filtered t x es h.1)
  where
    pick : (b : Bool) → AllByRecursion (λ y. x < y) (map (λ d. d.number) (filter t es)) → AllByRecursion (λ y. x < y)
        (map (λ d. d.number) (cond b (e ∷ filter t es) (filter t es)))
    pick true k = (h.0, k)
    pick false k = k

-- some of numbered entries are numbered
pub filtered_rises : (t : Indexed → Bool) (es : List Indexed) → IsRising (map (λ e. e.number) es) →
    IsRising (map (λ e. e.number) (filter t es))
filtered_rises t [] h = tt
filtered_rises t (e ∷ es) h = pick (t e) (filtered_rises t es h.1)
  where
    pick : (b : Bool) → IsRising (map (λ d. d.number) (filter t es)) →
        IsRising (map (λ d. d.number) (cond b (e ∷ filter t es) (filter t es)))
    pick true k = (above_filtered t e.number es h.0, k)
    pick false k = k

-- ---- an entry of the number, or none

not_there : (q : List KeyedAttribute → Bool) (n : ℕ) (es : List Indexed) → AllByRecursion (λ y. n < y)
    (map (λ e. e.number) es) → found q n es ≡ false
not_there q n [] h = refl
not_there q n (e ∷ es) h = ap (λ (b : Bool). (b && q e.entry) || found q n es)
    (ne_eqb n e.number (λ k. absurd (omega (arith, h.0)))) ∙ not_there q n es h.1

pub found_here : (q : List KeyedAttribute → Bool) (n : ℕ) (a : List KeyedAttribute) (es : List Indexed) →
    IsRising (map (λ e. e.number) es) → HasEntry es n a → found q n es ≡ q a
found_here q n a [] r h = absurd h
found_here q n a (e ∷ es) r (inl h) =
    let l : AllByRecursion (λ y. n < y) (map (λ x. x.number) es) = subst (λ (m : ℕ). AllByRecursion (λ y. m < y)
    (map (λ x. x.number) es)) h.0 r.0 in
    ap (λ (b : Bool). (b && q e.entry) || found q n es) (eq-eqb n e.number (sym h.0))
    ∙ ap (λ (b : Bool). q e.entry || b) (not_there q n es l) ∙ flat (q e.entry) ∙ ap q h.1
  where
    flat : (b : Bool) → (b || false) ≡ b
    flat true = refl
    flat false = refl
found_here q n a (e ∷ es) r (inr h) =
    let l : e.number < n = below_held n a es e.number r.0 h in
    ap (λ (b : Bool). (b && q e.entry) || found q n es) (ne_eqb n e.number (λ k. absurd (omega arith)))
    ∙ found_here q n a es r.1 h
  where
    below_held : (n : ℕ) (a : List KeyedAttribute) (xs : List Indexed) (x : ℕ) → AllByRecursion (λ y. x < y)
        (map (λ d. d.number) xs) → HasEntry xs n a → x < n
    below_held n a [] x b k = absurd k
    below_held n a (d ∷ ds) x b (inl k) = subst (λ (m : ℕ). x < m) k.0 b.0
    below_held n a (d ∷ ds) x b (inr k) = below_held n a ds x b.1 k

pub found_below : (q : List KeyedAttribute → Bool) (n : ℕ) (es : List Indexed) → AllBelow n es → found q n es ≡ false
found_below q n [] h = refl
found_below q n (e ∷ es) h = ap (λ (b : Bool). (b && q e.entry) || found q n es)
    (ne_eqb n e.number (λ k. absurd (omega (arith, h.0)))) ∙ found_below q n es h.1

-- ---- which entries there are after a change

pub push_rises : (n : ℕ) (a : List KeyedAttribute) (es : List Indexed) → IsRising (map (λ e. e.number) es) →
    AllBelow n es → IsRising (map (λ e. e.number) (es ++ record { number = n; entry = a } ∷ []))
push_rises n a [] r h = (tt, tt)
push_rises n a (e ∷ es) r h = (above e.number es r.0 h.0, push_rises n a es r.1 h.1)
  where
    above : (x : ℕ) (ds : List Indexed) → AllByRecursion (λ y. x < y) (map (λ d. d.number) ds) → x < n →
        AllByRecursion (λ y. x < y) (map (λ d. d.number) (ds ++ record { number = n; entry = a } ∷ []))
    above x [] g l = (l, tt)
    above x (d ∷ ds) g l = (g.0, above x ds g.1 l)

pub found_new : (q : List KeyedAttribute → Bool) (m n : ℕ) (a : List KeyedAttribute) (es : List Indexed) → AllBelow n es
    → found q m (es ++ record { number = n; entry = a } ∷ []) ≡ cond (nat_eq m n) (q a) (found q m es)
found_new q m n a es h =
    list_any-append (λ e. nat_eq m e.number && q e.entry) es (record { number = n; entry = a } ∷ [])
    ∙ pick (nat_eq m n) refl
  where
    pick : (b : Bool) → nat_eq m n ≡ b → (found q m es || ((b && q a) || false)) ≡ cond b (q a) (found q m es)
    pick true e = ap (λ (b : Bool). b || (q a || false)) (ap (λ (k : ℕ). found q k es) (eqb-true m n e)
        ∙ found_below q n es h) ∙ flat (q a)
      where
        flat : (b : Bool) → (b || false) ≡ b
        flat true = refl
        flat false = refl
    pick false e = flat (found q m es)
      where
        flat : (b : Bool) → (b || false) ≡ b
        flat true = refl
        flat false = refl

found_without : (q : List KeyedAttribute → Bool) (m n : ℕ) (es : List Indexed) → found q m (without n es) ≡
    cond (nat_eq m n) false (found q m es)
found_without q m n [] = flat (nat_eq m n)
  where
    flat : (b : Bool) → false ≡ cond b false false
    flat true = refl
    flat false = refl
found_without q m n (e ∷ es) = pick (nat_eq e.number n) refl (nat_eq m n) refl (found_without q m n es)
  where
    pick : (x : Bool) → nat_eq e.number n ≡ x → (y : Bool) → nat_eq m n ≡ y → found q m (without n es) ≡ cond y false
        (found q m es)
        → found q m (cond (not x) (e ∷ without n es) (without n es)) ≡ cond y false ((nat_eq m e.number && q e.entry)
        || found q m es)
    pick true f true g h = h
    pick true f false g h = h ∙ ap (λ (b : Bool). (b && q e.entry) || found q m es)
        (sym (ne_eqb m e.number (λ k. differ (k ∙ eqb-true e.number n f))))
      where
        differ : m ≡ n → ⊥
        differ k = let t : nat_eq m n ≡ true = eq-eqb m n k in cc
    pick false f true g h = ap (λ (b : Bool). (b && q e.entry) || found q m (without n es))
        (ne_eqb m e.number (λ k. differ (sym k ∙ eqb-true m n g))) ∙ h
      where
        differ : e.number ≡ n → ⊥
        differ k = let t : nat_eq e.number n ≡ true = eq-eqb e.number n k in cc
    pick false f false g h = ap (λ (b : Bool). (nat_eq m e.number && q e.entry) || b) h

pub is_there : ℕ → List Indexed → Bool
is_there n es = list_any (λ e. nat_eq n e.number) es

pub held_there : (n : ℕ) (a : List KeyedAttribute) (es : List Indexed) → HasEntry es n a → is_there n es ≡ true
unfolding is_there
held_there n a [] h = absurd h
held_there n a (e ∷ es) (inl h) = ap (λ (b : Bool). b || is_there n es) (eq-eqb n e.number (sym h.0))
held_there n a (e ∷ es) (inr h) = or_right (nat_eq n e.number) (is_there n es) (held_there n a es h)

pub found_with : (q : List KeyedAttribute → Bool) (m n : ℕ) (a : List KeyedAttribute) (es : List Indexed) →
    found q m (with_attributes n a es) ≡ cond (nat_eq m n) (is_there n es && q a) (found q m es)
unfolding is_there
found_with q m n a [] = flat (nat_eq m n)
  where
    flat : (b : Bool) → false ≡ cond b false false
    flat true = refl
    flat false = refl
found_with q m n a (e ∷ es) = pick (nat_eq e.number n) refl (nat_eq m n) refl (found_with q m n a es)
  where
    new : Indexed
    new = record { number = n; entry = a }

    both : (x y : Bool) → (x || (y && x)) ≡ x
    both true y = refl
    both false true = refl
    both false false = refl

    pick : (x : Bool) → nat_eq e.number n ≡ x → (y : Bool) → nat_eq m n ≡ y → found q m (with_attributes n a es) ≡
        cond y (is_there n es && q a) (found q m es)
        → ((nat_eq m (cond x (record { number = n; entry = a }) e).number
        && q (cond x (record { number = n; entry = a }) e).entry) || found q m (with_attributes n a es)) ≡
        cond y ((nat_eq n e.number || is_there n es) && q a) ((nat_eq m e.number && q e.entry) || found q m es)
    pick true f true g h =
        ap (λ (b : Bool). (b && q a) || found q m (with_attributes n a es)) g ∙ ap (λ (b : Bool). q a || b) h
        ∙ both (q a) (is_there n es)
        ∙ ap (λ (b : Bool). (b || is_there n es) && q a) (sym (eq-eqb n e.number (sym (eqb-true e.number n f))))
    pick true f false g h =
        ap (λ (b : Bool). (b && q a) || found q m (with_attributes n a es)) g ∙ h
        ∙ ap (λ (b : Bool). (b && q e.entry) || found q m es)
        (sym (ne_eqb m e.number (λ k. differ (k ∙ eqb-true e.number n f))))
      where
        differ : m ≡ n → ⊥
        differ k = let t : nat_eq m n ≡ true = eq-eqb m n k in cc
    pick false f true g h =
        ap (λ (b : Bool). (b && q e.entry) || found q m (with_attributes n a es))
        (ne_eqb m e.number (λ k. differ (sym k ∙ eqb-true m n g))) ∙ h
        ∙ ap (λ (b : Bool). (b || is_there n es) && q a) (sym (ne_eqb n e.number (λ k. differ (sym k))))
      where
        differ : e.number ≡ n → ⊥
        differ k = let t : nat_eq e.number n ≡ true = eq-eqb e.number n k in cc
    pick false f false g h = ap (λ (b : Bool). (nat_eq m e.number && q e.entry) || b) h

pub same_numbers : (n : ℕ) (a : List KeyedAttribute) (es : List Indexed) →
    map (λ e. e.number) (with_attributes n a es) ≡ map (λ e. e.number) es
same_numbers n a [] = refl
same_numbers n a (e ∷ es) = ap (λ (x : ℕ). x ∷ map (λ d. d.number) (with_attributes n a es))
    (pick (nat_eq e.number n) refl) ∙ ap (λ (l : List ℕ). e.number ∷ l) (same_numbers n a es)
  where
    pick : (b : Bool) → nat_eq e.number n ≡ b → (cond b (record { number = n; entry = a }) e).number ≡ e.number
    pick true f = sym (eqb-true e.number n f)
    pick false f = refl

-- ---- the whole

-- What became of the lists, as far as a posting's: a number may have moved, and nothing else.
pub record IsMoved (old new : ListRows) (n : ℕ) (before after : Posting → Bool) : Type 0 where
  pub rising : AllRise new
  pub has : (p : Posting) (k : ℕ) → is_in new (key_of p) k ≡ cond (nat_eq k n)
      (moved (before p) (after p) (is_in old (key_of p) k)) (is_in old (key_of p) k)

-- lists of entries rise
pub all_rise : (m : PostingsModel) (es : List Indexed) → AreOf m es → AllRise m.lists
all_rise m es held p = subst IsRising (sym (held.postings p)) (filtered_rises (λ d. is_kept m.indexes p
    && is_listed p d.entry) es held.numbered)

moves : (b a : Bool) → moved b a b ≡ a
moves true true = refl
moves true false = refl
moves false true = refl
moves false false = refl

-- the lists of the entries after a change are the changed lists
changed_lists : (ix : List Kinds) (old new : ListRows) (n : ℕ) (b a : List KeyedAttribute) (es es' : List Indexed) →
    AreOf (record { indexes = ix; lists = old }) es → IsMoved old new n (lists_entry ix b) (lists_entry ix a)
    → IsRising (map (λ e. e.number) es') → ((q : List KeyedAttribute → Bool) → q [] ≡ false → found q n es ≡ q b) →
    ((q : List KeyedAttribute → Bool) (m : ℕ) → q [] ≡ false → found q m es' ≡ cond (nat_eq m n) (q a)
    (found q m es))
    → AreOf (record { indexes = ix; lists = new }) es'
changed_lists ix old new n b a es es' held v up was now = record {
  numbered = up;
  postings = λ p. rising_same (list_at new (key_of p)) (numbers_where (λ e. lists_entry ix e p) es') (v.rising p)
      (filtered_rises (λ d. lists_entry ix d.entry p) es' up) (λ k. one p k (nat_eq k n) refl
      ∙ sym (now (λ e. lists_entry ix e p) k (entry_none ix p)) ∙ sym (number_found (λ e. lists_entry ix e p) k es'));
}
  where
    there : (p : Posting) (k : ℕ) → is_in old (key_of p) k ≡ found (λ e. lists_entry ix e p) k es
    there p k = ap (has_number k) (held.postings p) ∙ number_found (λ e. lists_entry ix e p) k es

    one : (p : Posting) (k : ℕ) (t : Bool) → nat_eq k n ≡ t → is_in new (key_of p) k ≡ cond (nat_eq k n)
        (lists_entry ix a p) (found (λ e. lists_entry ix e p) k es)
    one p k true e =
        v.has p k ∙ ap (λ (t : Bool). cond t (moved (lists_entry ix b p) (lists_entry ix a p)
        (is_in old (key_of p) k)) (is_in old (key_of p) k)) e
        ∙ ap (moved (lists_entry ix b p) (lists_entry ix a p)) (there p k
        ∙ ap (λ (m : ℕ). found (λ x. lists_entry ix x p) m es) (eqb-true k n e) ∙ was (λ x. lists_entry ix x p)
        (entry_none ix p))
        ∙ moves (lists_entry ix b p) (lists_entry ix a p)
        ∙ ap (λ (t : Bool). cond t (lists_entry ix a p) (found (λ x. lists_entry ix x p) k es)) (sym e)
    one p k false e =
        v.has p k ∙ ap (λ (t : Bool). cond t (moved (lists_entry ix b p) (lists_entry ix a p)
        (is_in old (key_of p) k)) (is_in old (key_of p) k)) e
        ∙ there p k ∙ ap (λ (t : Bool). cond t (lists_entry ix a p) (found (λ x. lists_entry ix x p) k es)) (sym e)

-- one more entry, one less, one with other attributes
pub added_lists : (ix : List Kinds) (old new : ListRows) (n : ℕ) (a : List KeyedAttribute) (es : List Indexed) →
    IsMoved old new n (lists_entry ix []) (lists_entry ix a) → AreOf (record { indexes = ix; lists = old }) es →
    AllBelow n es
    → AreOf (record { indexes = ix; lists = new }) (es ++ record { number = n; entry = a } ∷ [])
added_lists ix old new n a es v held b =
    changed_lists ix old new n [] a es (es ++ record { number = n; entry = a } ∷ []) held v
    (push_rises n a es held.numbered b) (λ q e. found_below q n es b ∙ sym e) (λ q m e. found_new q m n a es b)

pub removed_lists : (ix : List Kinds) (old new : ListRows) (n : ℕ) (b : List KeyedAttribute) (es : List Indexed) →
    IsMoved old new n (lists_entry ix b) (lists_entry ix []) → AreOf (record { indexes = ix; lists = old }) es →
    HasEntry es n b
    → AreOf (record { indexes = ix; lists = new }) (without n es)
removed_lists ix old new n b es v held there =
    changed_lists ix old new n b [] es (without n es) held v (filtered_rises (λ e. not (nat_eq e.number n)) es
    held.numbered) (λ q e. found_here q n b es held.numbered there)
    (λ q m e. found_without q m n es ∙ ap (λ (t : Bool). cond (nat_eq m n) t (found q m es)) (sym e))

pub replaced_lists : (ix : List Kinds) (old new : ListRows) (n : ℕ) (b a : List KeyedAttribute) (es : List Indexed) →
    IsMoved old new n (lists_entry ix b) (lists_entry ix a) → AreOf (record { indexes = ix; lists = old }) es →
    HasEntry es n b
    → AreOf (record { indexes = ix; lists = new }) (with_attributes n a es)
replaced_lists ix old new n b a es v held there =
    changed_lists ix old new n b a es (with_attributes n a es) held v (subst IsRising (sym (same_numbers n a es))
    held.numbered) (λ q e. found_here q n b es held.numbered there)
    (λ q m e. found_with q m n a es ∙ ap (λ (x : Bool). cond (nat_eq m n) (x && q a) (found q m es))
    (held_there n b es there))
