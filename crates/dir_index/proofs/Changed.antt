-- What a change of an entry's attributes leaves as it is: keys at both ends, attributes that are the same, postings
-- that aren't marked.
use Rattle.std.proofs.Common.{◌≡◌, ◌<◌, ◌+◌, ℕ, suc, Bool, true, false, List, [], ◌∷◌, ◌++◌, length, map, take, drop, get_or, nat_eq, refl, sym, ap, ap₂, ◌∙◌, add-one, drop-cons}
use Rattle.std.proofs.lemmas.List.{map-append, take_more}
use Rattle.std.specs.Prelude.{◌&&◌, ◌||◌, nat_lt}
use Rattle.std.specs.List.{list_any}
use Rattle.std.specs.Str.{bytes_eq}
use Rattle.std.proofs.lemmas.Bool.{eqb-true}
use Rattle.std.proofs.lemmas.List.Folds.{list_any-append}
use Rattle.std.proofs.lemmas.Slice.Eq.{bytes_eq-Decides}
use Rattle.index_choice.specs.dir_entry.ldap_match.Keyed.{is_same_key}
use Rattle.index_choice.specs.dir_entry.Entry.{KeyedAttribute}
use Rattle.index_choice.specs.declared.kinds.Kinds.{Kinds}
use Rattle.index_choice.specs.Choice.{kinds_of}
use Rattle.dir_index.specs.declared.posting.Posting.{Posting}
use Rattle.dir_index.specs.declared.posting.Posting.TheVariants.{Present, Several, Equal, Run}
use Rattle.dir_index.specs.declared.list_key.ListKey.{ListKey}
use Rattle.dir_index.specs.ListKeys.{key_of, is_same_list}
use Rattle.dir_index.specs.Postings.{is_of, has_type, has_several}
use Rattle.dir_index.specs.private.Marked.{lists_entry, lists_by, is_of_key, is_run_of, is_from_key, is_from_presence, makes_several, is_from_several, is_from_attribute}
use Rattle.dir_index.specs.private.Whole.{moved}
use Rattle.dir_index.proofs.Keys.{one_list}
use Rattle.dir_index.proofs.Marking.{or_assoc, or_swap, entry_more, entry_none}

-- ---- keys at both ends

pub front_step : {A : Type 0} (key : A → List ℕ) (f : List ℕ → Bool) (xs ys : List A) (i j : ℕ) (x y : A) →
    i < length xs → j < length ys → x ≡ get_or xs i x → y ≡ get_or ys j y → bytes_eq (key x) (key y) ≡ true →
    list_any f (map key (drop (i + 1) xs)) ≡ list_any f (map key (drop (j + 1) ys)) → list_any f (map key (drop i xs)) ≡
    list_any f (map key (drop j ys))
front_step {A} key f xs ys i j x y h k a b e same =
    at xs i x h a ∙ ap₂ (λ (p q : Bool). p || q) (ap f ((bytes_eq-Decides (key x) (key y)).0 e)) same
    ∙ sym (at ys j y k b)
  where
    at : (zs : List A) (n : ℕ) (z : A) → n < length zs → z ≡ get_or zs n z → list_any f (map key (drop n zs)) ≡
        (f (key z) || list_any f (map key (drop (n + 1) zs)))
    at zs n z l is =
        ap (λ (t : List A). list_any f (map key t)) (drop-cons zs n z l)
        ∙ ap (λ (t : A). f (key t) || list_any f (map key (drop (suc n) zs))) (sym is)
        ∙ ap (λ (m : ℕ). f (key z) || list_any f (map key (drop m zs))) (sym (add-one n))

pub end_step : {A : Type 0} (key : A → List ℕ) (f : List ℕ → Bool) (xs ys : List A) (i j : ℕ) (x y : A) →
    i < length xs → j < length ys → x ≡ get_or xs i x → y ≡ get_or ys j y → bytes_eq (key x) (key y) ≡ true →
    list_any f (map key (take i xs)) ≡ list_any f (map key (take j ys)) → list_any f (map key (take (i + 1) xs)) ≡
    list_any f (map key (take (j + 1) ys))
end_step {A} key f xs ys i j x y h k a b e same =
    at xs i x h a ∙ ap₂ (λ (p q : Bool). p || (q || false)) same (ap f ((bytes_eq-Decides (key x) (key y)).0 e))
    ∙ sym (at ys j y k b)
  where
    at : (zs : List A) (n : ℕ) (z : A) → n < length zs → z ≡ get_or zs n z → list_any f (map key (take (n + 1) zs)) ≡
        (list_any f (map key (take n zs)) || (f (key z) || false))
    at zs n z l is =
        ap (λ (t : List A). list_any f (map key t)) (take_more zs n z l
        ∙ ap (λ (t : A). take n zs ++ t ∷ []) (sym is))
        ∙ ap (list_any f) (map-append key (take n zs) (z ∷ []))
        ∙ list_any-append f (map key (take n zs)) (key z ∷ [])

both_ways : (a b : Bool) → (a ≡ true → b ≡ true) → (b ≡ true → a ≡ true) → a ≡ b
both_ways true true f g = refl
both_ways true false f g = sym (f refl)
both_ways false true f g = g refl
both_ways false false f g = refl

turned : (k l : List ℕ) → bytes_eq k l ≡ bytes_eq l k
turned k l = both_ways (bytes_eq k l) (bytes_eq l k) (λ h. (bytes_eq-Decides l k).1
    (sym ((bytes_eq-Decides k l).0 h))) (λ h. (bytes_eq-Decides k l).1 (sym ((bytes_eq-Decides l k).0 h)))

-- a key that is looked for among others
pub any_turned : (k : List ℕ) (xs : List (List ℕ)) → list_any (bytes_eq k) xs ≡ list_any (is_same_key k) xs
any_turned k [] = refl
any_turned k (x ∷ xs) = ap₂ (λ (a b : Bool). a || b) (turned k x) (any_turned k xs)

-- ---- keys part by part

-- the keys of the first part are marked, and those of the others are to be
pub part_marked : (f : List ℕ → Bool) (rest part others : List (List ℕ)) (old new : Bool) → rest ≡ part ++ others →
    new ≡ (list_any f part || old) → (list_any f others || new) ≡ (list_any f rest || old)
part_marked f rest part others old new h n =
    ap (λ (b : Bool). list_any f others || b) n
    ∙ or_swap (list_any f others) (list_any f part) old
    ∙ sym (or_assoc (list_any f part) (list_any f others) old)
    ∙ ap (λ (b : Bool). b || old) (sym (ap (list_any f) h ∙ list_any-append f part others))

-- ---- booleans

pub left_off : (a b : Bool) → (a || b) ≡ false → a ≡ false
left_off true b h = h
left_off false b h = refl

pub right_off : (a b : Bool) → (a || b) ≡ false → b ≡ false
right_off true b h = let y : true ≡ false = h in cc
right_off false b h = h

off_three : (e o s a b : Bool) → (e || (o || s)) ≡ false → (((e || o) && a) || (s && b)) ≡ false
off_three true o s a b h = let y : true ≡ false = h in cc
off_three false true s a b h = let y : true ≡ false = h in cc
off_three false false true a b h = let y : true ≡ false = h in cc
off_three false false false a b h = refl

-- ---- attributes

-- keys that no index has
pub no_keys : (ks : Kinds) (t : ℕ) (p : Posting) (xs : List (List ℕ)) →
    (ks.equality || (ks.ordering || ks.substrings)) ≡ false → list_any (is_from_key ks t p) xs ≡ false
no_keys ks t p [] h = refl
no_keys ks t p (x ∷ xs) h =
    ap₂ (λ (a b : Bool). a || b) (off_three ks.equality ks.ordering ks.substrings (is_of_key t x p) (is_run_of t x p)
    h) (no_keys ks t p xs h)

never_several : (ks : Kinds) (t : ℕ) (b : Bool) (p : Posting) → is_from_several ks t true p ≡ false →
    is_from_several ks t b p ≡ false
never_several ks t b (Present u) h = refl
never_several ks t b (Several u) h = less ks.ordering (nat_eq t u) b h
  where
    less : (o n b : Bool) → (o && (n && true)) ≡ false → (o && (n && b)) ≡ false
    less false n b h = refl
    less true false b h = refl
    less true true b h = let y : true ≡ false = h in cc
never_several ks t b (Equal u l) h = refl
never_several ks t b (Run u g) h = refl

-- two attributes of a type, whose keys a posting doesn't tell apart
pub pair_apart : (ix : List Kinds) (a b : KeyedAttribute) (e d : List KeyedAttribute) (p : Posting) (t : ℕ)
    (ks : Kinds) → t ≡ a.kind → ks ≡ kinds_of ix t → a.kind ≡ b.kind
    → is_from_several ks t true p ≡ false → list_any (is_from_key ks t p) a.keys ≡ list_any (is_from_key ks t p)
    b.keys → is_from_attribute ix a e p ≡ is_from_attribute ix b d p
pair_apart ix a b e d p t ks ta k ab several keys =
    as_of a e ta ∙ ap (λ (x : Bool). is_from_presence ks t p || x) keys ∙ sym (as_of b d (ta ∙ ab))
  where
    as_of : (c : KeyedAttribute) (f : List KeyedAttribute) → t ≡ c.kind → is_from_attribute ix c f p ≡
        (is_from_presence ks t p || list_any (is_from_key ks t p) c.keys)
    as_of c f tc =
        ap (λ (u : ℕ). is_from_presence (kinds_of ix u) u p || (is_from_several (kinds_of ix u) u (makes_several c f)
        p || list_any (is_from_key (kinds_of ix u) u p) c.keys)) (sym tc)
        ∙ ap (λ (q : Kinds). is_from_presence q t p || (is_from_several q t (makes_several c f) p || list_any
        (is_from_key q t p) c.keys)) (sym k)
        ∙ ap (λ (x : Bool). is_from_presence ks t p || (x || list_any (is_from_key ks t p) c.keys))
        (never_several ks t (makes_several c f) p several)

-- an attribute that brings none of a posting's
pub whole_apart : (ix : List Kinds) (a : KeyedAttribute) (e : List KeyedAttribute) (p : Posting) (t : ℕ)
    (ks : Kinds) → t ≡ a.kind → ks ≡ kinds_of ix t
    → is_from_presence ks t p ≡ false → is_from_several ks t true p ≡ false → list_any (is_from_key ks t p) a.keys ≡
    false → is_from_attribute ix a e p ≡ false
whole_apart ix a e p t ks ta k presence several keys =
    ap (λ (u : ℕ). is_from_presence (kinds_of ix u) u p || (is_from_several (kinds_of ix u) u (makes_several a e) p ||
    list_any (is_from_key (kinds_of ix u) u p) a.keys)) (sym ta)
    ∙ ap (λ (q : Kinds). is_from_presence q t p || (is_from_several q t (makes_several a e) p || list_any
    (is_from_key q t p) a.keys)) (sym k)
    ∙ ap (λ (x : Bool). is_from_presence ks t p || (x || list_any (is_from_key ks t p) a.keys))
    (never_several ks t (makes_several a e) p several)
    ∙ ap₂ (λ (x y : Bool). x || y) presence keys

-- ---- entries

pub entry_nothing : (ix : List Kinds) (es : List KeyedAttribute) (p : Posting) → length es ≡ 0 → lists_entry ix es p ≡
    false
entry_nothing ix [] p h = entry_none ix p
entry_nothing ix (e ∷ es) p h = absurd (cc)

-- an entry whose first attribute brings none of a posting's
pub entry_rest : (ix : List Kinds) (es rest : List KeyedAttribute) (a : KeyedAttribute) (p : Posting) →
    es ≡ a ∷ rest → is_from_attribute ix a rest p ≡ false → lists_entry ix es p ≡ lists_entry ix rest p
entry_rest ix es rest a p e h =
    ap (λ (l : List KeyedAttribute). lists_entry ix l p) e ∙ sym (entry_more ix a rest p)
    ∙ ap (λ (b : Bool). b || lists_entry ix rest p) h

-- two entries whose first attributes bring the same of a posting's
pub entry_pair : (ix : List Kinds) (es ds rest more : List KeyedAttribute) (a b : KeyedAttribute) (p : Posting) →
    es ≡ a ∷ rest → ds ≡ b ∷ more
    → is_from_attribute ix a rest p ≡ is_from_attribute ix b more p → lists_entry ix rest p ≡ lists_entry ix more p →
    lists_entry ix es p ≡ lists_entry ix ds p
entry_pair ix es ds rest more a b p e d h k =
    ap (λ (l : List KeyedAttribute). lists_entry ix l p) e ∙ sym (entry_more ix a rest p)
    ∙ ap₂ (λ (x y : Bool). x || y) h k
    ∙ entry_more ix b more p ∙ sym (ap (λ (l : List KeyedAttribute). lists_entry ix l p) d)

-- ---- one posting

-- what the key of a posting says of an entry
pub listed_by : (ix : List Kinds) (e : List KeyedAttribute) (k : ListKey) (p : Posting) → is_same_list k (key_of p) ≡
    true → lists_by ix e k ≡ lists_entry ix e p
listed_by ix e k p h = ap (lists_by ix e) (one_list k (key_of p) h) ∙ at_posting p
  where
    at_posting : (p : Posting) → lists_by ix e (key_of p) ≡ lists_entry ix e p
    at_posting (Present t) = refl
    at_posting (Several t) = refl
    at_posting (Equal t k) = refl
    at_posting (Run t g) = refl

-- an attribute makes an entry one of several values of its own type alone
pub several_of : (t : ℕ) (a : KeyedAttribute) (e : List KeyedAttribute) → (nat_eq a.kind t && makes_several a e) ≡
    (is_of t a && (nat_lt 1 (length a.keys) || has_type t e))
several_of t a e = pick (nat_eq a.kind t) refl
  where
    pick : (b : Bool) → nat_eq a.kind t ≡ b → (b && makes_several a e) ≡
        (b && (nat_lt 1 (length a.keys) || has_type t e))
    pick true h = ap (λ (u : ℕ). nat_lt 1 (length a.keys) || has_type u e) (eqb-true a.kind t h)
    pick false h = refl

-- ---- loops over marks

pub keep_step : (s m l w : Bool) → (s ≡ true → l ≡ true) → ((m && l) || (s || w)) ≡ (((s || m) && l) || w)
keep_step false m l w h = refl
keep_step true m l w h = on (m && l) w ∙ sym (ap (λ (b : Bool). b || w) (h refl))
  where
    on : (x w : Bool) → (x || true) ≡ true
    on true w = refl
    on false w = refl

pub drop_step : (s m l w : Bool) → (s ≡ true → l ≡ false) → ((m && l) || w) ≡ (((s || m) && l) || w)
drop_step false m l w h = refl
drop_step true m l w h = ap (λ (b : Bool). b || w) (ap (λ (b : Bool). m && b) (h refl) ∙ off m ∙ sym (h refl))
  where
    off : (b : Bool) → (b && false) ≡ false
    off true = refl
    off false = refl

-- what isn't marked stays
pub moved_within : (s b a there : Bool) → (s ≡ false → b ≡ a) → moved (s && b) (s && a) there ≡ moved b a there
moved_within true b a there h = refl
moved_within false b a there h = stays there ∙ sym (same b there) ∙ ap (λ (x : Bool). moved b x there) (h refl)
  where
    stays : (there : Bool) → moved false false there ≡ there
    stays true = refl
    stays false = refl

    same : (b there : Bool) → moved b b there ≡ there
    same true true = refl
    same true false = refl
    same false true = refl
    same false false = refl

-- an attribute that makes an entry none of several values
pub several_less : (t : ℕ) (es others : List KeyedAttribute) (a : KeyedAttribute) → es ≡ a ∷ others →
    (nat_eq a.kind t && makes_several a others) ≡ false → has_several t others ≡ has_several t es
several_less t es others a e h = sym (ap (has_several t) e ∙ ap (λ (b : Bool). b || has_several t others)
    (sym (several_of t a others) ∙ h))
