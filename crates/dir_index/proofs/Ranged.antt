-- The lists of a range: where they are in the map, and which numbers they have together.
use Rattle.std.proofs.Common.{◌≡◌, ℕ, Bool, true, false, cond, List, [], ◌∷◌, ◌++◌, Option, Some, None, Ordering, refl, sym, ap, ◌∙◌, subst, nat_eq, inl, inr}
use Rattle.std.specs.Prelude.{◌&&◌, ◌||◌}
use Rattle.std.specs.Ordering.{is_lt, is_eq, ordering_reverse}
use Rattle.std.specs.Cmp.{IsTotalOrder, tied_itself}
use Rattle.std.specs.List.{list_any, AllByRecursion}
use Rattle.std.specs.Map.{lookup}
use Rattle.std.specs.BTreeMap.{is_at}
use Rattle.std.specs.Option.{unwrap_or}
use Rattle.std.proofs.lemmas.Bool.{and_parts, and_from, or_cases, or_left, or_right}
use Rattle.std.proofs.lemmas.List.Folds.{list_any-append}
use Rattle.std.proofs.lemmas.Slice.Eq.{bytes_eq-Decides}
use Rattle.index_choice.specs.dir_entry.shared_map.Entries.{Rises, IsAhead}
use Rattle.index_choice.specs.dir_entry.shared_map.Runs.{entries_after}
use Rattle.index_choice.specs.dir_entry.ldap_match.Keyed.{is_same_key}
use Rattle.index_choice.specs.dir_entry.Entry.{KeyedAttribute}
use Rattle.index_choice.specs.Choice.{kinds_of}
use Rattle.dir_index.specs.declared.posting.Posting.{Posting}
use Rattle.dir_index.specs.declared.posting.Posting.TheVariants.{Equal}
use Rattle.dir_index.specs.declared.posting.Range.{Range}
use Rattle.dir_index.specs.declared.list_key.ListKey.{ListKey}
use Rattle.dir_index.specs.Postings.{Indexed, has_number, is_of, some_key, in_range, has_in_range, is_kept, is_listed, postings_of}
use Rattle.dir_index.specs.ListKeys.{key_of, list_order}
use Rattle.dir_index.specs.private.ListKeys.{is_list_in, range_start, or_nothing}
use Rattle.dir_index.specs.OrderLaws.{list_total}
use Rattle.dir_index.specs.Stored.{ListRows, list_at}
use Rattle.dir_index.specs.private.Stored.{is_in, has_in_lists}
use Rattle.dir_index.specs.Whole.{PostingsModel, AreOf}
use Rattle.dir_index.proofs.Keys.{by_ordering, one_by_order, list_in, in_list, past, early, start_in, not_true}
use Rattle.dir_index.proofs.Listed.{found, number_found, one_way}
use Rattle.dir_index.proofs.Marking.{off, or_assoc}

-- ---- what comes after a key

less_is : (r : Ordering) → is_lt r ≡ true → r ≡ Ordering.Less
less_is Ordering.Less h = refl
less_is Ordering.Equal h = cc
less_is Ordering.Greater h = cc

module _ {K X : Type 0} (R : K → K → Ordering) where
  some_kept : (P : K × X → Type 0) (t : Bool) (e : K × X) (xs : List (K × X)) → P e → AllByRecursion P xs →
      AllByRecursion P (cond t (e ∷ xs) xs)
  some_kept P true e xs p a = (p, a)
  some_kept P false e xs p a = a

  all_after : (P : K × X → Type 0) (k : K) (es : List (K × X)) → AllByRecursion P es →
      AllByRecursion P (entries_after (R k) es)
  all_after P k [] a = tt
  all_after P k (e ∷ es) a = some_kept P (is_lt (R k e.0)) e (entries_after (R k) es) a.0 (all_after P k es a.1)

  rise_kept : (t : Bool) (e : K × X) (xs : List (K × X)) → IsAhead R e.0 xs → Rises R xs → Rises R (cond t (e ∷ xs) xs)
  rise_kept true e xs a r = (a, r)
  rise_kept false e xs a r = r

  pub rises_after : (k : K) (es : List (K × X)) → Rises R es → Rises R (entries_after (R k) es)
  rises_after k [] r = tt
  rises_after k (e ∷ es) r = rise_kept (is_lt (R k e.0)) e (entries_after (R k) es)
      (all_after (λ f. R e.0 f.0 ≡ Ordering.Less) k es r.0) (rises_after k es r.1)

  ahead_kept : (t : Bool) (k : K) (e : K × X) (xs : List (K × X)) → is_lt (R k e.0) ≡ t → IsAhead R k xs →
      IsAhead R k (cond t (e ∷ xs) xs)
  ahead_kept true k e xs h a = (less_is (R k e.0) h, a)
  ahead_kept false k e xs h a = a

  pub ahead_after : (k : K) (es : List (K × X)) → IsAhead R k (entries_after (R k) es)
  ahead_after k [] = tt
  ahead_after k (e ∷ es) = ahead_kept (is_lt (R k e.0)) k e (entries_after (R k) es) refl (ahead_after k es)

  -- below all keys
  after_all : (k : K) (es : List (K × X)) → IsAhead R k es → entries_after (R k) es ≡ es
  after_all k [] a = refl
  after_all k (e ∷ es) a = ap (λ t. cond t (e ∷ entries_after (R k) es) (entries_after (R k) es)) (ap is_lt a.0)
      ∙ ap (λ l. e ∷ l) (after_all k es a.1)

  none_found : (k : K) (es : List (K × X)) → IsAhead R k es → lookup (is_at (R k)) es ≡ None
  none_found k [] a = refl
  none_found k (e ∷ es) a = ap (λ t. cond t (Some e.1) (lookup (is_at (R k)) es)) (ap is_eq a.0) ∙ none_found k es a.1

  module _ (o : IsTotalOrder R) where
    pub ahead_too : (j k : K) (es : List (K × X)) → R j k ≡ Ordering.Less → IsAhead R k es → IsAhead R j es
    ahead_too j k [] h a = tt
    ahead_too j k (e ∷ es) h a = (o.trans j k e.0 h a.0, ahead_too j k es h a.1)

-- ---- the lists of a range

module _ (r : Range) (n : ℕ) where
  -- one list of the range, in a walk
  pub in_one_more : (k : ListKey) (v : List ℕ) (ls : ListRows) (old new : List ℕ) → is_list_in r k ≡ true →
      new ≡ old ++ v → (has_number n new || has_in_lists r n ls) ≡ (has_number n old || has_in_lists r n ((k, v) ∷ ls))
  in_one_more k v ls old new h e =
      ap (λ (l : List ℕ). has_number n l || has_in_lists r n ls) e
      ∙ ap (λ (b : Bool). b || has_in_lists r n ls) (list_any-append (nat_eq n) old v)
      ∙ or_assoc (has_number n old) (has_number n v) (has_in_lists r n ls)
      ∙ ap (λ (b : Bool). has_number n old || ((b && has_number n v) || has_in_lists r n ls)) (sym h)

  none_behind : (k : ListKey) (ls : ListRows) → list_order (range_start r) k ≡ Ordering.Less → is_list_in r k ≡
      false → IsAhead list_order k ls → has_in_lists r n ls ≡ false
  none_behind k [] s h a = refl
  none_behind k (l ∷ ls) s h a = ap (λ (b : Bool). (b && has_number n l.1) || has_in_lists r n ls)
      (past r k l.0 s h a.0) ∙ none_behind k ls s h a.1

  -- a walk that has come to a key behind the range
  pub no_more : (k : ListKey) (v : List ℕ) (ls : ListRows) → IsAhead list_order (range_start r) ((k, v) ∷ ls) →
      Rises list_order ((k, v) ∷ ls) → is_list_in r k ≡ false → has_in_lists r n ((k, v) ∷ ls) ≡ false
  no_more k v ls s a h = ap (λ (b : Bool). (b && has_number n v) || has_in_lists r n ls) h ∙ none_behind k ls s.0 h a.0

  -- the list at the start, and those behind it
  pub from_start : (ls : ListRows) → Rises list_order ls
      → ((in_range r (or_nothing r.from) && has_number n (list_at ls (range_start r))) || has_in_lists r n
      (entries_after (list_order (range_start r)) ls)) ≡ has_in_lists r n ls
  from_start [] s = ap (λ (b : Bool). b || false) (off (in_range r (or_nothing r.from)))
  from_start (l ∷ ls) s = by_ordering (list_order (range_start r) l.0)
      (λ e.
      let ahead : IsAhead list_order (range_start r) (l ∷ ls) =
      (e, ahead_too list_order list_total (range_start r) l.0 ls e s.0) in
      ap (λ (v : Option (List ℕ)). (in_range r (or_nothing r.from) && has_number n (unwrap_or v [])) || has_in_lists r
      n (entries_after (list_order (range_start r)) (l ∷ ls))) (none_found list_order (range_start r) (l ∷ ls)
      ahead)
      ∙ ap (λ (b : Bool). b || has_in_lists r n (entries_after (list_order (range_start r)) (l ∷ ls)))
      (off (in_range r (or_nothing r.from)))
      ∙ ap (has_in_lists r n) (after_all list_order (range_start r) (l ∷ ls) ahead))
      (λ e.
      let same = one_by_order (range_start r) l.0 e in
      ap (λ (t : Ordering). (in_range r (or_nothing r.from)
      && has_number n (unwrap_or (cond (is_eq t) (Some l.1) (lookup (is_at (list_order (range_start r))) ls)) []))
      || has_in_lists r n (cond (is_lt t) (l ∷ entries_after (list_order (range_start r)) ls)
      (entries_after (list_order (range_start r)) ls))) e
      ∙ ap (λ (x : ListRows). (in_range r (or_nothing r.from) && has_number n l.1) || has_in_lists r n x)
      (after_all list_order (range_start r) ls (subst (λ (k : ListKey). IsAhead list_order k ls) (sym same) s.0))
      ∙ ap (λ (b : Bool). (b && has_number n l.1) || has_in_lists r n ls) (sym (start_in r) ∙ ap (is_list_in r) same))
      (λ e.
      ap (λ (t : Ordering). (in_range r (or_nothing r.from)
      && has_number n (unwrap_or (cond (is_eq t) (Some l.1) (lookup (is_at (list_order (range_start r))) ls)) []))
      || has_in_lists r n (cond (is_lt t) (l ∷ entries_after (list_order (range_start r)) ls)
      (entries_after (list_order (range_start r)) ls))) e
      ∙ from_start ls s.1
      ∙ ap (λ (b : Bool). (b && has_number n l.1) || has_in_lists r n ls)
      (sym (early r l.0 (list_total.antisymm l.0 (range_start r) ∙ ap ordering_reverse e))))

-- ---- the numbers of a range's lists

any_here : (r : Range) (n : ℕ) (ls : ListRows) → has_in_lists r n ls ≡ true → Rises list_order ls → (k : ListKey)
    × (is_list_in r k ≡ true) × (is_in ls k n ≡ true)
any_here r n [] h s = cc
any_here r n (l ∷ ls) h s = elim (or_cases (is_list_in r l.0 && has_number n l.1) (has_in_lists r n ls) h) [
  | inl e ↦ let p = and_parts (is_list_in r l.0) (has_number n l.1) e
      in (
        l.0,
        p.0,
        ap (λ t. has_number n (unwrap_or (cond t (Some l.1) (lookup (is_at (list_order l.0)) ls)) [])) (ap
            is_eq (tied_itself list_total l.0)) ∙ p.1,
      )
  | inr e ↦ let f = any_here r n ls e s.1 in (f.0, f.1, later f.0 f.2)
]
  where
    later : (k : ListKey) → is_in ls k n ≡ true → is_in (l ∷ ls) k n ≡ true
    later k g = by_ordering (list_order k l.0)
        (λ e. ap (λ t. has_number n (unwrap_or (cond (is_eq t) (Some l.1) (lookup (is_at (list_order k)) ls)) [])) e
        ∙ g)
        (λ e.
        let same = one_by_order k l.0 e in
        let gone : is_in ls k n ≡ false = ap (λ (v : Option (List ℕ)). has_number n (unwrap_or v []))
        (none_found list_order k ls (subst (λ (q : ListKey). IsAhead list_order q ls) (sym same) s.0)) in
        absurd (not_true (is_in ls k n) g gone))
        (λ e. ap (λ t. has_number n (unwrap_or (cond (is_eq t) (Some l.1) (lookup (is_at (list_order k)) ls)) [])) e
        ∙ g)

here_any : (r : Range) (n : ℕ) (ls : ListRows) (k : ListKey) → is_list_in r k ≡ true → is_in ls k n ≡ true →
    has_in_lists r n ls ≡ true
here_any r n [] k h g = cc
here_any r n (l ∷ ls) k h g = pick (λ f. here_any r n ls k h f) (is_eq (list_order k l.0)) refl g
  where
    pick : (is_in ls k n ≡ true → has_in_lists r n ls ≡ true) → (t : Bool) → is_eq (list_order k l.0) ≡ t →
        has_number n (unwrap_or (cond t (Some l.1) (lookup (is_at (list_order k)) ls)) []) ≡ true →
        has_in_lists r n (l ∷ ls) ≡ true
    pick rest true e f = or_left (is_list_in r l.0 && has_number n l.1) (has_in_lists r n ls)
        (and_from (is_list_in r l.0) (has_number n l.1)
        (ap (is_list_in r) (sym (one_by_order k l.0 (equal (list_order k l.0) e))) ∙ h) f)
      where
        equal : (o : Ordering) → is_eq o ≡ true → o ≡ Ordering.Equal
        equal Ordering.Less x = cc
        equal Ordering.Equal x = refl
        equal Ordering.Greater x = cc
    pick rest false e f = or_right (is_list_in r l.0 && has_number n l.1) (has_in_lists r n ls) (rest f)

found_more : (p q : List KeyedAttribute → Bool) → ((e : List KeyedAttribute) → p e ≡ true → q e ≡ true) →
    (n : ℕ) (es : List Indexed) → found p n es ≡ true → found q n es ≡ true
found_more p q f n [] h = h
found_more p q f n (e ∷ es) h = elim (or_cases (nat_eq n e.number && p e.entry) (found p n es) h) [
  | inl g ↦ let u = and_parts (nat_eq n e.number) (p e.entry) g in or_left (nat_eq n e.number && q e.entry)
      (found q n es) (and_from (nat_eq n e.number) (q e.entry) u.0 (f e.entry u.1))
  | inr g ↦ or_right (nat_eq n e.number && q e.entry) (found q n es) (found_more p q f n es g)
]

-- an entry that is found
found_one : (p : List KeyedAttribute → Bool) (n : ℕ) (es : List Indexed) → found p n es ≡ true →
    (e : List KeyedAttribute) × (p e ≡ true) × ((q : List KeyedAttribute → Bool) → q e ≡ true → found q n es ≡ true)
found_one p n [] h = cc
found_one p n (e ∷ es) h = elim (or_cases (nat_eq n e.number && p e.entry) (found p n es) h) [
  | inl g ↦ let u = and_parts (nat_eq n e.number) (p e.entry) g in (
    e.entry,
    u.1,
    λ q w. or_left (nat_eq n e.number
        && q e.entry) (found q n es) (and_from (nat_eq n e.number) (q e.entry) u.0 w),
  )
  | inr g ↦ let f = found_one p n es g in (
    f.0,
    f.1,
    λ q w. or_right (nat_eq n e.number
        && q e.entry) (found q n es) (f.2 q w),
  )
]

key_more : (f g : List ℕ → Bool) → ((x : List ℕ) → f x ≡ true → g x ≡ true) → (ks : List (List ℕ)) → list_any f ks ≡
    true → list_any g ks ≡ true
key_more f g i [] h = h
key_more f g i (k ∷ ks) h = elim (or_cases (f k) (list_any f ks) h)
    [ inl e ↦ or_left (g k) (list_any g ks) (i k e) | inr e ↦ or_right (g k) (list_any g ks) (key_more f g i ks e) ]

some_more : (t : ℕ) (f g : List ℕ → Bool) → ((x : List ℕ) → f x ≡ true → g x ≡ true) → (e : List KeyedAttribute) →
    some_key t f e ≡ true → some_key t g e ≡ true
some_more t f g i [] h = h
some_more t f g i (a ∷ e) h = elim (or_cases (is_of t a && list_any f a.keys) (some_key t f e) h) [
  | inl u ↦ let p = and_parts (is_of t a) (list_any f a.keys) u in or_left (is_of t a && list_any g a.keys)
      (some_key t g e) (and_from (is_of t a) (list_any g a.keys) p.0 (key_more f g i a.keys p.1))
  | inr u ↦ or_right (is_of t a && list_any g a.keys) (some_key t g e) (some_more t f g i e u)
]

key_one : (f : List ℕ → Bool) (ks : List (List ℕ)) → list_any f ks ≡ true → (x : List ℕ) × (f x ≡ true)
    × (list_any (is_same_key x) ks ≡ true)
key_one f [] h = cc
key_one f (k ∷ ks) h = elim (or_cases (f k) (list_any f ks) h) [
  | inl e ↦ (k, e, or_left (is_same_key k k) (list_any (is_same_key k) ks) ((bytes_eq-Decides k k).1 refl))
  | inr e ↦ let r = key_one f ks e in (r.0, r.1, or_right (is_same_key r.0 k) (list_any (is_same_key r.0) ks) r.2)
]

some_one : (t : ℕ) (f : List ℕ → Bool) (e : List KeyedAttribute) → some_key t f e ≡ true → (x : List ℕ) × (f x ≡ true)
    × (some_key t (is_same_key x) e ≡ true)
some_one t f [] h = cc
some_one t f (a ∷ e) h = elim (or_cases (is_of t a && list_any f a.keys) (some_key t f e) h) [
  | inl u ↦ let p = and_parts (is_of t a) (list_any f a.keys) u in let r = key_one f a.keys p.1 in (
    r.0,
    r.1,
    or_left (is_of t a && list_any (is_same_key r.0) a.keys) (some_key t (is_same_key r.0) e) (and_from
        (is_of t a) (list_any (is_same_key r.0) a.keys) p.0 r.2),
  )
  | inr u ↦ let r = some_one t f e u in (
    r.0,
    r.1,
    or_right (is_of t a && list_any (is_same_key r.0) a.keys) (some_key
        t (is_same_key r.0) e) r.2,
  )
]

-- the lists of a range have the numbers of the range's entries
pub range_numbers : (m : PostingsModel) (es : List Indexed) (r : Range) (n : ℕ) → Rises list_order m.lists →
    AreOf m es → (kinds_of m.indexes r.type_id).ordering ≡ true
    → has_in_lists r n m.lists ≡ has_number n ((postings_of m.indexes es).range r)
range_numbers m es r n s held o =
    one_way (has_in_lists r n m.lists) (found ranged n es)
    (λ h.
    let k = any_here r n m.lists h s in
    let i = list_in r k.0 k.1 in
    let p : Posting = Equal r.type_id k.0.octets in
    let same : k.0 ≡ key_of p = λ j. record { type_id = i.of_type j; rank = i.of_rank j; octets = k.0.octets } in
    found_more (λ e. is_kept m.indexes p && is_listed p e) ranged
    (λ e w. and_from (kinds_of m.indexes r.type_id).ordering (has_in_range r e) o
    (some_more r.type_id (is_same_key k.0.octets) (in_range r)
    (λ x v. ap (in_range r) ((bytes_eq-Decides x k.0.octets).0 v) ∙ and_from _ _ i.from i.upto) e
    (and_parts (is_kept m.indexes p) (is_listed p e) w).1)) n es
    (sym (ap (has_number n) (held.postings p) ∙ number_found (λ e. is_kept m.indexes p && is_listed p e) n es)
    ∙ ap (λ q. is_in m.lists q n) (sym same) ∙ k.2))
    (λ h.
    let e = found_one ranged n es h in
    let x = some_one r.type_id (in_range r) e.0 (and_parts (kinds_of m.indexes r.type_id).ordering
    (has_in_range r e.0) e.1).1 in
    let p : Posting = Equal r.type_id x.0 in
    let q = and_parts _ _ x.1 in
    here_any r n m.lists (key_of p) (in_list r (key_of p) refl refl q.0 q.1)
    (ap (has_number n) (held.postings p) ∙ number_found (λ d. is_kept m.indexes p && is_listed p d) n es
    ∙ e.2 (λ d. is_kept m.indexes p && is_listed p d) (and_from (is_kept m.indexes p) (is_listed p e.0)
    (or_right (kinds_of m.indexes r.type_id).equality (kinds_of m.indexes r.type_id).ordering o) x.2)))
    ∙ sym (number_found ranged n es)
  where
    ranged : List KeyedAttribute → Bool
    ranged e = (kinds_of m.indexes r.type_id).ordering && has_in_range r e

none_found_off : (f : List KeyedAttribute → Bool) (b : Bool) (n : ℕ) (es : List Indexed) → b ≡ false →
    found (λ e. b && f e) n es ≡ false
none_found_off f b n [] h = refl
none_found_off f b n (e ∷ es) h = ap (λ (x : Bool). (nat_eq n e.number && (x && f e.entry)) || found (λ d. b && f d) n
    es) h ∙ ap (λ (x : Bool). x || found (λ d. b && f d) n es) (off (nat_eq n e.number)) ∙ none_found_off f b n es h

-- a range whose type has no index in order has none
pub no_range : (m : PostingsModel) (es : List Indexed) (r : Range) (n : ℕ) → (kinds_of m.indexes r.type_id).ordering ≡
    false → has_number n ((postings_of m.indexes es).range r) ≡ false
no_range m es r n o = number_found (λ e. (kinds_of m.indexes r.type_id).ordering && has_in_range r e) n es
    ∙ none_found_off (has_in_range r) (kinds_of m.indexes r.type_id).ordering n es o
