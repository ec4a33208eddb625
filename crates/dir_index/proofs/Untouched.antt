-- Attributes of types that a change doesn't touch: no posting of another type lists an entry by them. Values that are
-- named: a posting that they don't bring lists both entries or neither.
use Rattle.std.proofs.Common.{◌≡◌, ℕ, Bool, true, false, cond, List, [], ◌∷◌, length, nat_eq, refl, sym, ap, ap₂, ◌∙◌}
use Rattle.std.specs.Prelude.{◌&&◌, ◌||◌, nat_lt}
use Rattle.std.specs.List.{list_any}
use Rattle.std.proofs.lemmas.Bool.{eqb-true}
use Rattle.index_choice.specs.dir_entry.ldap_match.Keyed.{is_same_key}
use Rattle.index_choice.specs.dir_entry.Entry.{KeyedAttribute}
use Rattle.index_choice.specs.declared.kinds.Kinds.{Kinds}
use Rattle.index_choice.specs.Choice.{kinds_of}
use Rattle.dir_index.specs.declared.posting.Posting.{Posting}
use Rattle.dir_index.specs.declared.posting.Posting.TheVariants.{Present, Several, Equal, Run}
use Rattle.dir_index.specs.declared.touched.Touched.{Touched}
use Rattle.dir_index.specs.declared.touched.Touched.TheVariants.{All, These}
use Rattle.dir_index.specs.Ordered.{type_of}
use Rattle.dir_index.specs.Postings.{is_of, has_type, has_several, some_key, stands_in, is_kept}
use Rattle.dir_index.specs.Whole.{of_type, is_one_of, AreSameBut}
use Rattle.dir_index.specs.private.Marked.{lists_entry, is_of_key, is_run_of, is_from_key, is_from_presence, is_from_several, is_from_attribute, is_brought, is_from_named}
use Rattle.dir_index.specs.private.Touched.{is_whole, named_in, is_touched, AreSameElsewhere}
use Rattle.dir_index.proofs.Changed.{left_off, right_off, whole_apart, entry_rest}
use Rattle.dir_index.proofs.Marking.{off, or_off, entry_step, entry_more, entry_none}

-- ---- a posting lists an entry by the attributes of its type alone

type_there : (t : ℕ) (e : List KeyedAttribute) → has_type t (of_type t e) ≡ has_type t e
type_there t [] = refl
type_there t (a ∷ e) = by (is_of t a) refl (type_there t e)
  where
    by : (b : Bool) → is_of t a ≡ b → has_type t (of_type t e) ≡ has_type t e →
        has_type t (cond b (a ∷ of_type t e) (of_type t e)) ≡ (b || has_type t e)
    by true f ih = ap (λ (x : Bool). x || has_type t (of_type t e)) f
    by false f ih = ih

key_there : (t : ℕ) (q : List ℕ → Bool) (e : List KeyedAttribute) → some_key t q (of_type t e) ≡ some_key t q e
key_there t q [] = refl
key_there t q (a ∷ e) = by (is_of t a) refl (key_there t q e)
  where
    by : (b : Bool) → is_of t a ≡ b → some_key t q (of_type t e) ≡ some_key t q e →
        some_key t q (cond b (a ∷ of_type t e) (of_type t e)) ≡ ((b && list_any q a.keys) || some_key t q e)
    by true f ih = ap₂ (λ (x y : Bool). (x && list_any q a.keys) || y) f ih
    by false f ih = ih

several_there : (t : ℕ) (e : List KeyedAttribute) → has_several t (of_type t e) ≡ has_several t e
several_there t [] = refl
several_there t (a ∷ e) = by (is_of t a) refl (several_there t e)
  where
    by : (b : Bool) → is_of t a ≡ b → has_several t (of_type t e) ≡ has_several t e →
        has_several t (cond b (a ∷ of_type t e) (of_type t e)) ≡ ((b && (nat_lt 1 (length a.keys) || has_type t e)) ||
        has_several t e)
    by true f ih =
        ap₂ (λ (x y : Bool). (x && (nat_lt 1 (length a.keys) || y)) || has_several t (of_type t e)) f (type_there t e)
        ∙ ap (λ (y : Bool). (nat_lt 1 (length a.keys) || has_type t e) || y) ih
    by false f ih = ih

by_type : (ix : List Kinds) (e : List KeyedAttribute) (p : Posting) → lists_entry ix (of_type (type_of p) e) p ≡
    lists_entry ix e p
by_type ix e (Present t) = ap (λ (b : Bool). is_kept ix (Present t) && b) (type_there t e)
by_type ix e (Several t) = ap (λ (b : Bool). is_kept ix (Several t) && b) (several_there t e)
by_type ix e (Equal t k) = ap (λ (b : Bool). is_kept ix (Equal t k) && b) (key_there t (is_same_key k) e)
by_type ix e (Run t g) = ap (λ (b : Bool). is_kept ix (Run t g) && b) (key_there t (stands_in g) e)

-- so two entries that have the same attributes of its type are listed alike
same_of_type : (ix : List Kinds) (b a : List KeyedAttribute) (p : Posting) → of_type (type_of p) b ≡ of_type
    (type_of p) a → lists_entry ix b p ≡ lists_entry ix a p
same_of_type ix b a p h = sym (by_type ix b p) ∙ ap (λ (l : List KeyedAttribute). lists_entry ix l p) h
    ∙ by_type ix a p

-- ---- an attribute of another type brings nothing

none_of : (x y a b : Bool) → a ≡ false → b ≡ false → ((x && a) || (y && b)) ≡ false
none_of true true a b h k = ap₂ (λ (p q : Bool). p || q) h k
none_of true false a b h k = ap (λ (p : Bool). p || false) h
none_of false true a b h k = k
none_of false false a b h k = refl

other_key : (t : ℕ) (k : List ℕ) (p : Posting) → nat_eq t (type_of p) ≡ false → is_of_key t k p ≡ false
other_key t k (Present u) h = refl
other_key t k (Several u) h = refl
other_key t k (Equal u l) h = ap (λ (b : Bool). b && is_same_key l k) h
other_key t k (Run u g) h = refl

other_run : (t : ℕ) (k : List ℕ) (p : Posting) → nat_eq t (type_of p) ≡ false → is_run_of t k p ≡ false
other_run t k (Present u) h = refl
other_run t k (Several u) h = refl
other_run t k (Equal u l) h = refl
other_run t k (Run u g) h = ap (λ (b : Bool). b && (nat_eq (length g) 3 && stands_in g k)) h

other_keys : (ks : Kinds) (t : ℕ) (p : Posting) (xs : List (List ℕ)) → nat_eq t (type_of p) ≡ false →
    list_any (is_from_key ks t p) xs ≡ false
other_keys ks t p [] h = refl
other_keys ks t p (x ∷ xs) h =
    ap₂ (λ (a b : Bool). a || b) (none_of (ks.equality || ks.ordering) ks.substrings (is_of_key t x p)
    (is_run_of t x p) (other_key t x p h) (other_run t x p h)) (other_keys ks t p xs h)

other_presence : (ks : Kinds) (t : ℕ) (p : Posting) → nat_eq t (type_of p) ≡ false → is_from_presence ks t p ≡ false
other_presence ks t (Present u) h = ap (λ (b : Bool). ks.presence && b) h ∙ off ks.presence
other_presence ks t (Several u) h = refl
other_presence ks t (Equal u l) h = refl
other_presence ks t (Run u g) h = refl

other_several : (ks : Kinds) (t : ℕ) (p : Posting) → nat_eq t (type_of p) ≡ false → is_from_several ks t true p ≡
    false
other_several ks t (Present u) h = refl
other_several ks t (Several u) h = ap (λ (b : Bool). ks.ordering && (b && true)) h ∙ off ks.ordering
other_several ks t (Equal u l) h = refl
other_several ks t (Run u g) h = refl

other_type : (ix : List Kinds) (a : KeyedAttribute) (e : List KeyedAttribute) (p : Posting) →
    nat_eq a.kind (type_of p) ≡ false → is_from_attribute ix a e p ≡ false
other_type ix a e p h =
    let ks : Kinds = kinds_of ix a.kind in
    whole_apart ix a e p a.kind ks refl refl (other_presence ks a.kind p h) (other_several ks a.kind p h)
    (other_keys ks a.kind p a.keys h)

-- ---- attributes of some types, by a test of types

types_differ : (q : ℕ → Bool) (t u : ℕ) → q t ≡ false → q u ≡ true → nat_eq t u ≡ false
types_differ q t u f g = by (nat_eq t u) refl
  where
    by : (b : Bool) → nat_eq t u ≡ b → b ≡ false
    by false e = refl
    by true e = let y : true ≡ false = sym g ∙ ap q (sym (eqb-true t u e)) ∙ f in cc

types_apart : (q : ℕ → Bool) (t u : ℕ) → q t ≡ true → q u ≡ false → nat_eq t u ≡ false
types_apart q t u f g = by (nat_eq t u) refl
  where
    by : (b : Bool) → nat_eq t u ≡ b → b ≡ false
    by false e = refl
    by true e = let y : true ≡ false = sym f ∙ ap q (eqb-true t u e) ∙ g in cc

-- an attribute of another type is passed over
pub passed_over : (ix : List Kinds) (q : ℕ → Bool) (es rest : List KeyedAttribute) (a : KeyedAttribute) (p : Posting) →
    es ≡ a ∷ rest → q a.kind ≡ false → q (type_of p) ≡ true → lists_entry ix es p ≡ lists_entry ix rest p
passed_over ix q es rest a p e f g = entry_rest ix es rest a p e (other_type ix a rest p (types_differ q a.kind
    (type_of p) f g))

-- ---- a loop over attributes, which marks the first, or passes it over

pub marked_first : (ix : List Kinds) (q : ℕ → Bool) (es rest : List KeyedAttribute) (a : KeyedAttribute) (p : Posting)
    (old new : Bool) → es ≡ a ∷ rest → q a.kind ≡ true → new ≡ (is_from_attribute ix a rest p || old) →
    ((q (type_of p) && lists_entry ix rest p) || new) ≡ ((q (type_of p) && lists_entry ix es p) || old)
marked_first ix q es rest a p old new e f h = by (q (type_of p)) refl
  where
    by : (t : Bool) → q (type_of p) ≡ t → ((t && lists_entry ix rest p) || new) ≡ ((t && lists_entry ix es p) || old)
    by true g = entry_step ix a rest p old new h
        ∙ ap (λ (l : List KeyedAttribute). lists_entry ix l p || old) (sym e)
    by false g = h ∙ ap (λ (b : Bool). b || old) (other_type ix a rest p (types_apart q a.kind (type_of p) f g))

pub passed_first : (ix : List Kinds) (q : ℕ → Bool) (es rest : List KeyedAttribute) (a : KeyedAttribute) (p : Posting) →
    es ≡ a ∷ rest → q a.kind ≡ false → (q (type_of p) && lists_entry ix rest p) ≡ (q (type_of p) && lists_entry ix es p)
passed_first ix q es rest a p e f = by (q (type_of p)) refl
  where
    by : (t : Bool) → q (type_of p) ≡ t → (t && lists_entry ix rest p) ≡ (t && lists_entry ix es p)
    by true g = sym (passed_over ix q es rest a p e f g)
    by false g = refl

-- ---- values that are named

one_brought : (p : Posting) (a : KeyedAttribute) (e : List KeyedAttribute) → (is_brought p (a ∷ []) || is_brought p
    e) ≡ is_brought p (a ∷ e)
one_brought (Present t) a e = ap (λ (b : Bool). b || has_type t e) (or_off (is_of t a))
one_brought (Several t) a e = ap (λ (b : Bool). b || has_type t e) (or_off (is_of t a))
one_brought (Equal t k) a e = ap (λ (b : Bool). b || some_key t (is_same_key k) e)
    (or_off (is_of t a && list_any (is_same_key k) a.keys))
one_brought (Run t g) a e = ap (λ (b : Bool). b || some_key t (stands_in g) e)
    (or_off (is_of t a && list_any (stands_in g) a.keys))

twice_there : (k x n : Bool) → (k && ((x && (n || (x || false))) || ((x && (n || false)) || false))) ≡ false →
    (k && (x || false)) ≡ false
twice_there false x n h = refl
twice_there true false n h = refl
twice_there true true true h = h
twice_there true true false h = h

-- what an attribute brings none of, whatever is behind it
alone : (ix : List Kinds) (a : KeyedAttribute) (p : Posting) → ((e : List KeyedAttribute) → is_from_attribute ix a e p ≡
    false) → lists_entry ix (a ∷ []) p ≡ false
alone ix a p h = sym (entry_more ix a [] p) ∙ ap₂ (λ (x y : Bool). x || y) (h []) (entry_none ix p)

brought_none : (ix : List Kinds) (a : KeyedAttribute) (p : Posting) → ((e : List KeyedAttribute) → is_from_attribute ix
    a e p ≡ false) → is_from_named ix (a ∷ []) p ≡ false
brought_none ix a (Present t) h = alone ix a (Present t) h
brought_none ix a (Several t) h =
    twice_there (kinds_of ix t).ordering (is_of t a) (nat_lt 1 (length a.keys))
    (sym (entry_more ix a (a ∷ []) (Several t)) ∙ ap₂ (λ (x y : Bool). x || y) (h (a ∷ [])) (alone ix a (Several t)
    h))
brought_none ix a (Equal t k) h = alone ix a (Equal t k) h
brought_none ix a (Run t g) h = alone ix a (Run t g) h

neither : (k x y : Bool) → (k && x) ≡ false → (k && y) ≡ false → (k && (x || y)) ≡ false
neither false x y h g = refl
neither true x y h g = ap₂ (λ (a b : Bool). a || b) h g

-- one more attribute of named values, which brings nothing
pub named_first : (ix : List Kinds) (named rest : List KeyedAttribute) (a : KeyedAttribute) (p : Posting) →
    named ≡ a ∷ rest → ((e : List KeyedAttribute) → is_from_attribute ix a e p ≡ false) →
    is_from_named ix rest p ≡ false → is_from_named ix named p ≡ false
named_first ix named rest a p e h k =
    ap (λ (l : List KeyedAttribute). is_from_named ix l p) e
    ∙ ap (λ (b : Bool). is_kept ix p && b) (sym (one_brought p a rest))
    ∙ neither (is_kept ix p) (is_brought p (a ∷ [])) (is_brought p rest) (brought_none ix a p h) k

none_brought : (p : Posting) → is_brought p [] ≡ false
none_brought (Present t) = refl
none_brought (Several t) = refl
none_brought (Equal t k) = refl
none_brought (Run t g) = refl

pub named_nothing : (ix : List Kinds) (named : List KeyedAttribute) (p : Posting) → length named ≡ 0 →
    is_from_named ix named p ≡ false
named_nothing ix [] p h = ap (λ (b : Bool). is_kept ix p && b) (none_brought p) ∙ off (is_kept ix p)
named_nothing ix (a ∷ named) p h = absurd (cc)

unkept : (k x y : Bool) → k ≡ false → (k && x) ≡ (k && y)
unkept k x y h = ap (λ (b : Bool). b && x) h ∙ sym (ap (λ (b : Bool). b && y) h)

unasked : (k : Bool) → (k && true) ≡ false → k ≡ false
unasked true h = h
unasked false h = refl

-- whether there is an attribute of a type, and whether it may have several values
by_type_alone : (ix : List Kinds) (types : List ℕ) (named b a : List KeyedAttribute) (p : Posting) (k x y : Bool) →
    AreSameBut types named b a → is_one_of types (type_of p) ≡ false → lists_entry ix b p ≡ (k && x) →
    lists_entry ix a p ≡ (k && y) → (k && has_type (type_of p) named) ≡ false → lists_entry ix b p ≡ lists_entry ix a p
by_type_alone ix types named b a p k x y same other f g none = by (has_type (type_of p) named) refl none
  where
    by : (there : Bool) → has_type (type_of p) named ≡ there → (k && there) ≡ false → lists_entry ix b p ≡ lists_entry
        ix a p
    by true h n = f ∙ unkept k x y (unasked k n) ∙ sym g
    by false h n = same_of_type ix b a p (same.attributes (type_of p) other h)

-- the keys of a type
by_keys_alone : (k there before after : Bool) → (there ≡ false → before ≡ after) → (k && there) ≡ false →
    (k && before) ≡ (k && after)
by_keys_alone false there before after h none = refl
by_keys_alone true there before after h none = h none

-- a posting of a type that isn't touched whole, and that no named value brings
named_alike : (ix : List Kinds) (types : List ℕ) (named b a : List KeyedAttribute) (p : Posting) →
    AreSameBut types named b a → is_one_of types (type_of p) ≡ false → is_from_named ix named p ≡ false →
    lists_entry ix b p ≡ lists_entry ix a p
named_alike ix types named b a (Present t) same other none =
    by_type_alone ix types named b a (Present t) (kinds_of ix t).presence (has_type t b) (has_type t a) same other refl
    refl none
named_alike ix types named b a (Several t) same other none =
    by_type_alone ix types named b a (Several t) (kinds_of ix t).ordering (has_several t b) (has_several t a) same
    other refl refl none
named_alike ix types named b a (Equal t k) same other none =
    by_keys_alone (is_kept ix (Equal t k)) (some_key t (is_same_key k) named) (some_key t (is_same_key k) b)
    (some_key t (is_same_key k) a) (same.keys t (is_same_key k) other) none
named_alike ix types named b a (Run t g) same other none =
    by_keys_alone (is_kept ix (Run t g)) (some_key t (stands_in g) named) (some_key t (stands_in g) b)
    (some_key t (stands_in g) a) (same.keys t (stands_in g) other) none

-- ---- what a change may touch

-- what holds of the postings of types that are touched whole holds of all that no named value brings
pub listed_alike : (ix : List Kinds) (w : Touched) (b a : List KeyedAttribute) (p : Posting) → AreSameElsewhere w b a →
    is_from_named ix (named_in w) p ≡ false → (is_whole w (type_of p) ≡ true → lists_entry ix b p ≡ lists_entry ix a
    p) → lists_entry ix b p ≡ lists_entry ix a p
listed_alike ix All b a p same none h = h refl
listed_alike ix (These types named) b a p same none h = by (is_one_of types.now (type_of p)) refl
  where
    by : (x : Bool) → is_one_of types.now (type_of p) ≡ x → lists_entry ix b p ≡ lists_entry ix a p
    by true f = h f
    by false f = named_alike ix types.now named.now b a p same f none

-- a posting of a type that isn't touched
pub untouched_alike : (ix : List Kinds) (w : Touched) (b a : List KeyedAttribute) (p : Posting) →
    AreSameElsewhere w b a → is_touched w (type_of p) ≡ false → lists_entry ix b p ≡ lists_entry ix a p
untouched_alike ix All b a p same off = let y : true ≡ false = off in absurd (cc y)
untouched_alike ix (These types named) b a p same off =
    same_of_type ix b a p (same.attributes (type_of p) (left_off (is_one_of types.now (type_of p)) (has_type (type_of
    p) named.now) off) (right_off (is_one_of types.now (type_of p)) (has_type (type_of p) named.now) off))
