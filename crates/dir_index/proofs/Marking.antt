-- Sets of keys: what one more key changes, and which an attribute has.
use Rattle.std.proofs.Common.{◌≡◌, ℕ, ◌<◌, ◌≤◌, ◌+◌, Bool, true, false, cond, List, [], ◌∷◌, length, take, get_or, refl, sym, ap, ◌∙◌, nat_eq}
use Rattle.std.specs.Prelude.{◌&&◌, ◌||◌, nat_lt}
use Rattle.std.specs.Ordering.{is_eq}
use Rattle.std.specs.Str.{bytes_eq}
use Rattle.std.specs.List.{list_any}
use Rattle.std.specs.BTreeMap.{is_at}
use Rattle.std.proofs.lemmas.Bool.{eqb-true, eq-eqb}
use Rattle.std.proofs.lemmas.List.Folds.{list_any_more}
use Rattle.std.proofs.lemmas.Slice.Eq.{bytes_eq-Decides}
use Rattle.std.proofs.lemmas.List.{length-take-le}
use Rattle.index_choice.specs.dir_entry.ldap_match.Keyed.{is_same_key}
use Rattle.index_choice.specs.dir_entry.Entry.{KeyedAttribute}
use Rattle.index_choice.specs.declared.kinds.Kinds.{Kinds}
use Rattle.index_choice.specs.Choice.{kinds_of}
use Rattle.dir_index.specs.declared.posting.Posting.{Posting}
use Rattle.dir_index.specs.declared.posting.Posting.TheVariants.{Present, Several, Equal, Run}
use Rattle.dir_index.specs.declared.list_key.ListKey.{ListKey}
use Rattle.dir_index.specs.ListKeys.{key_of, list_order, is_same_list}
use Rattle.dir_index.specs.OrderLaws.{list_ties, list_equiv}
use Rattle.dir_index.specs.Postings.{is_of, has_type, stands_in, is_kept, is_listed}
use Rattle.dir_index.proofs.Keys.{by_bool}
use Rattle.dir_index.specs.private.Marked.{is_marked, lists_entry, is_of_key, is_first_run, is_from_key, is_from_presence, makes_several, is_from_several, is_from_attribute}

-- what std's set has is what is marked
pub marked_at : (ks : List ListKey) (k : ListKey) → is_marked ks k ≡ list_any (is_at (list_order k)) ks
marked_at [] k = refl
marked_at (j ∷ ks) k = ap (λ (b : Bool). b || is_marked ks k) (list_equiv.symm j k ∙ list_ties k j)
    ∙ ap (λ (b : Bool). is_eq (list_order k j) || b) (marked_at ks k)

-- one more key
pub marked_more : (old new : List ListKey) (j : ListKey) → ((k : ListKey) → list_any (is_at (list_order k)) new ≡
    cond (is_at (list_order j) k) true (list_any (is_at (list_order k)) old))
    → (k : ListKey) → is_marked new k ≡ (is_same_list j k || is_marked old k)
marked_more old new j h k =
    marked_at new k ∙ h k ∙ flat (is_eq (list_order j k)) (list_any (is_at (list_order k)) old)
    ∙ ap (λ (b : Bool). b || list_any (is_at (list_order k)) old) (sym (list_ties j k))
    ∙ ap (λ (b : Bool). is_same_list j k || b) (sym (marked_at old k))
  where
    flat : (a b : Bool) → cond a true b ≡ (a || b)
    flat true b = refl
    flat false b = refl

-- ---- booleans

pub off : (b : Bool) → (b && false) ≡ false
off true = refl
off false = refl

pub or_off : (b : Bool) → (b || false) ≡ b
or_off true = refl
or_off false = refl

pub or_assoc : (a b c : Bool) → ((a || b) || c) ≡ (a || (b || c))
or_assoc true b c = refl
or_assoc false b c = refl

pub or_swap : (a b c : Bool) → (a || (b || c)) ≡ (b || (a || c))
or_swap true true c = refl
or_swap true false c = refl
or_swap false b c = refl

-- ---- what an attribute, and an entry, are marked by

all_off : {X : Type 0} (xs : List X) → list_any (λ x. false) xs ≡ false
all_off [] = refl
all_off (x ∷ xs) = all_off xs

any_and : {X : Type 0} (b : Bool) (f : X → Bool) (xs : List X) → list_any (λ x. b && f x) xs ≡ (b && list_any f xs)
any_and true f xs = refl
any_and false f xs = all_off xs

any_same : {X : Type 0} (f g : X → Bool) → ((x : X) → f x ≡ g x) → (xs : List X) → list_any f xs ≡ list_any g xs
any_same f g h [] = refl
any_same f g h (x ∷ xs) = ap (λ (b : Bool). b || list_any f xs) (h x) ∙ ap (λ (b : Bool). g x || b) (any_same f g h xs)

-- what depends on the type, where the type is the posting's
at_kind : (f : ℕ → Bool) (t u : ℕ) → (f t && nat_eq t u) ≡ (f u && nat_eq t u)
at_kind f t u = pick (nat_eq t u) refl
  where
    pick : (b : Bool) → nat_eq t u ≡ b → (f t && b) ≡ (f u && b)
    pick true e = ap (λ (n : ℕ). f n && true) (eqb-true t u e)
    pick false e = off (f t) ∙ sym (off (f u))

at_kind_and : (f : ℕ → Bool) (t u : ℕ) (x : Bool) → (f t && (nat_eq t u && x)) ≡ (f u && (nat_eq t u && x))
at_kind_and f t u x = pick (nat_eq t u) refl
  where
    pick : (b : Bool) → nat_eq t u ≡ b → (f t && (b && x)) ≡ (f u && (b && x))
    pick true e = ap (λ (n : ℕ). f n && x) (eqb-true t u e)
    pick false e = off (f t) ∙ sym (off (f u))

-- ---- what single keys are

pub same_value : (t : ℕ) (k : List ℕ) (p : Posting) → is_same_list (record { type_id = t; rank = 2; octets = k })
    (key_of p) ≡ is_of_key t k p
same_value t k (Present u) = off (nat_eq t u)
same_value t k (Several u) = off (nat_eq t u)
same_value t k (Equal u l) = refl
same_value t k (Run u g) = off (nat_eq t u)

on_off : (b : Bool) → (b && true) ≡ b
on_off true = refl
on_off false = refl

pub same_presence : (ks : Kinds) (t : ℕ) (p : Posting) → ks.presence ≡ true →
    is_same_list (record { type_id = t; rank = 0; octets = [] }) (key_of p) ≡ is_from_presence ks t p
same_presence ks t (Present u) h = on_off (nat_eq t u) ∙ ap (λ (b : Bool). b && nat_eq t u) (sym h)
same_presence ks t (Several u) h = off (nat_eq t u)
same_presence ks t (Equal u l) h = off (nat_eq t u)
same_presence ks t (Run u g) h = off (nat_eq t u)

pub no_presence : (ks : Kinds) (t : ℕ) (p : Posting) → ks.presence ≡ false → is_from_presence ks t p ≡ false
no_presence ks t (Present u) h = ap (λ (b : Bool). b && nat_eq t u) h
no_presence ks t (Several u) h = refl
no_presence ks t (Equal u l) h = refl
no_presence ks t (Run u g) h = refl

pub same_several : (ks : Kinds) (t : ℕ) (b : Bool) (p : Posting) → ks.ordering ≡ true → b ≡ true →
    is_same_list (record { type_id = t; rank = 1; octets = [] }) (key_of p) ≡ is_from_several ks t b p
same_several ks t b (Present u) h s = off (nat_eq t u)
same_several ks t b (Several u) h s = ap (λ (x : Bool). nat_eq t u && x) (sym s)
    ∙ ap (λ (x : Bool). x && (nat_eq t u && b)) (sym h)
same_several ks t b (Equal u l) h s = off (nat_eq t u)
same_several ks t b (Run u g) h s = off (nat_eq t u)

pub no_several : (ks : Kinds) (t : ℕ) (b : Bool) (p : Posting) → (ks.ordering && b) ≡ false →
    is_from_several ks t b p ≡ false
no_several ks t b (Present u) h = refl
no_several ks t b (Several u) h = either ks.ordering (nat_eq t u) b h
  where
    either : (o n x : Bool) → (o && x) ≡ false → (o && (n && x)) ≡ false
    either false n x h = refl
    either true true x h = h
    either true false x h = refl
no_several ks t b (Equal u l) h = refl
no_several ks t b (Run u g) h = refl

-- the first three octets, compared at once, and by their count
pub same_run : (t : ℕ) (k : List ℕ) (p : Posting) → 3 ≤ length k →
    is_same_list (record { type_id = t; rank = 3; octets = take 3 k }) (key_of p) ≡ is_first_run t k p
same_run t k (Present u) h = off (nat_eq t u)
same_run t k (Several u) h = off (nat_eq t u)
same_run t k (Equal u l) h = off (nat_eq t u)
same_run t k (Run u g) h = ap (λ (b : Bool). nat_eq t u && b) (three (nat_eq (length g) 3) refl)
  where
    three : (b : Bool) → nat_eq (length g) 3 ≡ b → bytes_eq (take 3 k) g ≡ (b && bytes_eq (take (length g) k) g)
    three true e = ap (λ (n : ℕ). bytes_eq (take n k) g) (sym (eqb-true (length g) 3 e))
    three false e = by_bool (bytes_eq (take 3 k) g)
        (λ h'. absurd (differ (ap length (sym ((bytes_eq-Decides (take 3 k) g).0 h')) ∙ length-take-le 3 k h)))
        (λ h'. h')
      where
        differ : length g ≡ 3 → ⊥
        differ d = let y : true ≡ false = sym (eq-eqb (length g) 3 d) ∙ e in cc

-- whether a posting lists an entry for the sake of its first attribute
is_listed_by : Posting → KeyedAttribute → List KeyedAttribute → Bool
is_listed_by (Present t) a e = is_of t a
is_listed_by (Several t) a e = is_of t a && (nat_lt 1 (length a.keys) || has_type t e)
is_listed_by (Equal t k) a e = is_of t a && list_any (is_same_key k) a.keys
is_listed_by (Run t g) a e = is_of t a && list_any (stands_in g) a.keys

listed_more : (p : Posting) (a : KeyedAttribute) (e : List KeyedAttribute) → (is_listed_by p a e || is_listed p e) ≡
    is_listed p (a ∷ e)
unfolding is_listed_by
listed_more (Present t) a e = refl
listed_more (Several t) a e = refl
listed_more (Equal t k) a e = refl
listed_more (Run t g) a e = refl

at_kind_both : (f g : ℕ → Bool) (t u : ℕ) → (f t && (nat_eq t u && g t)) ≡ (f u && (nat_eq t u && g u))
at_kind_both f g t u = pick (nat_eq t u) refl
  where
    pick : (b : Bool) → nat_eq t u ≡ b → (f t && (b && g t)) ≡ (f u && (b && g u))
    pick true e = ap (λ (n : ℕ). f n && g n) (eqb-true t u e)
    pick false e = off (f t) ∙ sym (off (f u))

asked : Kinds → Bool
asked ks = ks.equality || ks.ordering

-- neither a value nor a run
nothing : (ks : Kinds) → (((ks.equality || ks.ordering) && false) || (ks.substrings && false)) ≡ false
nothing ks = ap (λ (b : Bool). b || (ks.substrings && false)) (off (ks.equality || ks.ordering)) ∙ off ks.substrings

-- one attribute: its presence, whether there may be several values, its keys, their runs, each where the type has such
-- an index
attribute_lists : (ix : List Kinds) (a : KeyedAttribute) (e : List KeyedAttribute) (p : Posting) →
    is_from_attribute ix a e p ≡ (is_kept ix p && is_listed_by p a e)
unfolding asked is_listed_by
attribute_lists ix a e (Present u) =
    ap (λ (b : Bool). ((kinds_of ix a.kind).presence && nat_eq a.kind u) || b)
    (any_same (is_from_key (kinds_of ix a.kind) a.kind (Present u)) (λ k. false)
    (λ k. nothing (kinds_of ix a.kind)) a.keys ∙ all_off a.keys)
    ∙ or_off ((kinds_of ix a.kind).presence && nat_eq a.kind u) ∙ at_kind (λ (t : ℕ). (kinds_of ix t).presence) a.kind u
attribute_lists ix a e (Several u) =
    ap (λ (b : Bool). ((kinds_of ix a.kind).ordering && (nat_eq a.kind u && makes_several a e)) || b)
    (any_same (is_from_key (kinds_of ix a.kind) a.kind (Several u)) (λ k. false)
    (λ k. nothing (kinds_of ix a.kind)) a.keys ∙ all_off a.keys)
    ∙ or_off ((kinds_of ix a.kind).ordering && (nat_eq a.kind u && makes_several a e))
    ∙ at_kind_both (λ (t : ℕ). (kinds_of ix t).ordering) (λ (t : ℕ). nat_lt 1 (length a.keys) || has_type t e) a.kind u
attribute_lists ix a e (Equal u l) =
    any_same (is_from_key (kinds_of ix a.kind) a.kind (Equal u l)) (λ k. asked (kinds_of ix a.kind)
    && (nat_eq a.kind u && is_same_key l k)) (λ k. alone (kinds_of ix a.kind) (nat_eq a.kind u
    && is_same_key l k)) a.keys
    ∙ any_and (asked (kinds_of ix a.kind)) (λ k. nat_eq a.kind u && is_same_key l k) a.keys
    ∙ ap (λ (b : Bool). asked (kinds_of ix a.kind) && b) (any_and (nat_eq a.kind u) (is_same_key l) a.keys)
    ∙ at_kind_and (λ (t : ℕ). asked (kinds_of ix t)) a.kind u (list_any (is_same_key l) a.keys)
  where
    alone : (ks : Kinds) (b : Bool) → ((asked ks && b) || (ks.substrings && false)) ≡ (asked ks && b)
    alone ks b = ap (λ (x : Bool). (asked ks && b) || x) (off ks.substrings) ∙ or_off (asked ks && b)
attribute_lists ix a e (Run u g) =
    any_same (is_from_key (kinds_of ix a.kind) a.kind (Run u g)) (λ k. (kinds_of ix a.kind).substrings
    && (nat_eq a.kind u && (nat_eq (length g) 3 && stands_in g k)))
    (λ k. ap (λ (x : Bool). x || ((kinds_of ix a.kind).substrings
    && (nat_eq a.kind u && (nat_eq (length g) 3 && stands_in g k))))
    (off ((kinds_of ix a.kind).equality || (kinds_of ix a.kind).ordering))) a.keys
    ∙ any_and (kinds_of ix a.kind).substrings (λ k. nat_eq a.kind u && (nat_eq (length g) 3 && stands_in g k)) a.keys
    ∙ ap (λ (b : Bool). (kinds_of ix a.kind).substrings && b) (any_and (nat_eq a.kind u) (λ k. nat_eq (length g) 3
    && stands_in g k) a.keys)
    ∙ at_kind_and (λ (t : ℕ). (kinds_of ix t).substrings) a.kind u (list_any (λ k. nat_eq (length g) 3
    && stands_in g k) a.keys)
    ∙ ap (λ (b : Bool). (kinds_of ix u).substrings && (nat_eq a.kind u && b)) (any_and (nat_eq (length g) 3)
    (stands_in g) a.keys)
    ∙ regroup (kinds_of ix u).substrings (nat_eq a.kind u) (nat_eq (length g) 3) (list_any (stands_in g) a.keys)
  where
    regroup : (s n l x : Bool) → (s && (n && (l && x))) ≡ ((s && l) && (n && x))
    regroup false n l x = refl
    regroup true false false x = refl
    regroup true false true x = refl
    regroup true true l x = refl

pub listed_none : (p : Posting) → is_listed p [] ≡ false
listed_none (Present t) = refl
listed_none (Several t) = refl
listed_none (Equal t k) = refl
listed_none (Run t g) = refl

-- an entry: what its first attribute brings, and the others
pub entry_more : (ix : List Kinds) (a : KeyedAttribute) (e : List KeyedAttribute) (p : Posting) →
    (is_from_attribute ix a e p || lists_entry ix e p) ≡ lists_entry ix (a ∷ e) p
entry_more ix a e p =
    ap (λ (b : Bool). b || lists_entry ix e p) (attribute_lists ix a e p)
    ∙ both (is_kept ix p) (is_listed_by p a e) (is_listed p e)
    ∙ ap (λ (b : Bool). is_kept ix p && b) (listed_more p a e)
  where
    both : (k x y : Bool) → ((k && x) || (k && y)) ≡ (k && (x || y))
    both true x y = refl
    both false x y = refl

-- the same in a loop, which marks the attribute first
pub entry_step : (ix : List Kinds) (a : KeyedAttribute) (e : List KeyedAttribute) (p : Posting) (old new : Bool) →
    new ≡ (is_from_attribute ix a e p || old) → (lists_entry ix e p || new) ≡ (lists_entry ix (a ∷ e) p || old)
entry_step ix a e p old new h =
    ap (λ (b : Bool). lists_entry ix e p || b) h ∙ or_swap (lists_entry ix e p) (is_from_attribute ix a e p) old
    ∙ sym (or_assoc (is_from_attribute ix a e p) (lists_entry ix e p) old)
    ∙ ap (λ (b : Bool). b || old) (entry_more ix a e p)

pub entry_none : (ix : List Kinds) (p : Posting) → lists_entry ix [] p ≡ false
entry_none ix p = ap (λ (b : Bool). is_kept ix p && b) (listed_none p) ∙ off (is_kept ix p)

-- ---- loops

-- one more element of a list, before what was there
pub any_more : {X : Type 0} (f : X → Bool) (xs : List X) (i : ℕ) (x : X) (b : Bool) → i < length xs →
    x ≡ get_or xs i x → (f x || (list_any f (take i xs) || b)) ≡ (list_any f (take (i + 1) xs) || b)
any_more f xs i x b l e =
    ap (λ (y : Bool). y || (list_any f (take i xs) || b)) (ap f e) ∙ or_swap (f (get_or xs i x))
    (list_any f (take i xs)) b ∙ sym (or_assoc (list_any f (take i xs)) (f (get_or xs i x)) b)
    ∙ ap (λ (y : Bool). y || b) (sym (list_any_more f xs i x l))
