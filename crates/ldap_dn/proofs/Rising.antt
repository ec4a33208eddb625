-- Types put in their places stand in rising order.
use Rattle.std.proofs.Common.{ℕ, suc, ◌+◌, List, [], ◌∷◌, Bool, true, false, cond, ◌&&◌, Option, None, Some, nat_lt, nat_eq, slice_get, insert, ◌≡◌, refl, sym, ap, ◌∙◌, subst, arith}
use Rattle.std.specs.Option.{option_and_then}
use Rattle.std.specs.List.{list_all}
use Rattle.std.proofs.lemmas.Bool.{ltb-true, ltb-false, eqb-false, lt-ltb}
use Rattle.ldap_schema.specs.Schema.{SchemaModel}
use Rattle.ldap_dn.specs.Names.{TypeAndValue, TypeAndKey, RdnModel}
use Rattle.ldap_dn.specs.Texts.{count_below, is_of_type, placed_if, type_and_key_of, keys_from, rdn_by, rdn_spelled, written_of}
use Rattle.ldap_dn.specs.Rising.{is_rising, KeysAreRising}
use Rattle.ldap_dn.proofs.Spelled.{none_some, some_same}

abbrev with_first : TypeAndKey → Option (List TypeAndKey) → Option (List TypeAndKey)
with_first k None = None
with_first k (Some ks) = Some (k ∷ ks)

abbrev put : TypeAndKey → List TypeAndKey → Option (List TypeAndKey)
put k [] = Some (k ∷ [])
put k (x ∷ xs) = cond (nat_lt x.kind k.kind) (with_first x (put k xs)) (cond (nat_eq x.kind k.kind) None
    (Some (k ∷ x ∷ xs)))

first_of_cond : (b : Bool) (x : TypeAndKey) (ks : List TypeAndKey) → cond b None (Some (x ∷ ks)) ≡ with_first x
    (cond b None (Some ks))
first_of_cond true x ks = refl
first_of_cond false x ks = refl

abbrev placed_at : ℕ → TypeAndKey → List TypeAndKey → Option (List TypeAndKey)
placed_at n k ks = cond (is_of_type k.kind (slice_get ks n)) None (Some (insert ks n k))

next_place : (m n : ℕ) (k x : TypeAndKey) (xs : List TypeAndKey) → m ≡ suc n → placed_at m k (x ∷ xs) ≡ with_first x
    (placed_at n k xs)
next_place m n k x xs e = ap (λ j. cond (is_of_type k.kind (slice_get (x ∷ xs) j)) None (Some (insert (x ∷ xs) j k)))
    e ∙ first_of_cond (is_of_type k.kind (slice_get xs n)) x (insert xs n k)

placed_put : (k : TypeAndKey) (ks : List TypeAndKey) → placed_at (count_below k.kind ks) k ks ≡ put k ks
placed_put k [] = refl
placed_put k (x ∷ xs) = by (nat_lt x.kind k.kind) (placed_put k xs)
  where
    by : (b : Bool) → placed_at (count_below k.kind xs) k xs ≡ put k xs →
        placed_at (cond b (1 + count_below k.kind xs) 0) k (x ∷ xs) ≡ cond b (with_first x (put k xs))
        (cond (nat_eq x.kind k.kind) None (Some (k ∷ x ∷ xs)))
    by true h = next_place (1 + count_below k.kind xs) (count_below k.kind xs) k x xs (omega arith)
        ∙ ap (with_first x) h
    by false h = refl

pub both : (a b : Bool) → (a && b) ≡ true → (a ≡ true) × (b ≡ true)
both true b e = (refl, e)
both false b e = absurd (cc)

and_true : (a b : Bool) → a ≡ true → b ≡ true → (a && b) ≡ true
and_true a b e f = rw (e, f) refl

above : (a b c : ℕ) → nat_lt a b ≡ true → nat_lt b c ≡ true → nat_lt a c ≡ true
above a b c h i =
    let p = ltb-true a b h in
    let q = ltb-true b c i in
    lt-ltb a c (omega (arith, p, q))

turned : (a b : ℕ) → nat_lt a b ≡ false → nat_eq a b ≡ false → nat_lt b a ≡ true
turned a b h i =
    let p = ltb-false a b h in
    let q = eqb-false a b i in
    lt-ltb b a (omega (arith, p, q))

all_above : (a b : ℕ) → nat_lt a b ≡ true → (xs : List TypeAndKey) → list_all (λ x. nat_lt b x.kind) xs ≡ true →
    list_all (λ x. nat_lt a x.kind) xs ≡ true
all_above a b h [] e = refl
all_above a b h (x ∷ xs) e =
    let p = both (nat_lt b x.kind) (list_all (λ x. nat_lt b x.kind) xs) e in
    and_true (nat_lt a x.kind) (list_all (λ x. nat_lt a x.kind) xs) (above a b x.kind h p.0) (all_above a b h xs p.1)

record Behind (x : TypeAndKey) (o : Option (List TypeAndKey)) (js : List TypeAndKey) : Type 0 where
  ks : List TypeAndKey
  is : o ≡ Some ks
  is_all : x ∷ ks ≡ js

behind : (o : Option (List TypeAndKey)) (x : TypeAndKey) (js : List TypeAndKey) → with_first x o ≡ Some js →
    Behind x o js
behind None x js e = absurd (none_some e)
behind (Some ks) x js e = record { ks = ks; is = refl; is_all = some_same e }

all_put : (a : ℕ) (k : TypeAndKey) (xs js : List TypeAndKey) → put k xs ≡ Some js → nat_lt a k.kind ≡ true →
    list_all (λ x. nat_lt a x.kind) xs ≡ true → list_all (λ x. nat_lt a x.kind) js ≡ true
all_put a k [] js e h r = subst (λ l. list_all (λ x. nat_lt a x.kind) l ≡ true) (some_same e)
    (and_true (nat_lt a k.kind) true h refl)
all_put a k (x ∷ xs) js e h r = by (nat_lt x.kind k.kind) (nat_eq x.kind k.kind) (λ ys f. all_put a k xs ys f h p.1) e
  where
    p : (nat_lt a x.kind ≡ true) × (list_all (λ z. nat_lt a z.kind) xs ≡ true)
    p = both (nat_lt a x.kind) (list_all (λ z. nat_lt a z.kind) xs) r

    by : (b d : Bool) → ((ys : List TypeAndKey) → put k xs ≡ Some ys → list_all (λ z. nat_lt a z.kind) ys ≡ true) →
        cond b (with_first x (put k xs)) (cond d None (Some (k ∷ x ∷ xs))) ≡ Some js → list_all (λ z. nat_lt a z.kind)
        js ≡ true
    by true d more f =
        let q = behind (put k xs) x js f in
        subst (λ l. list_all (λ z. nat_lt a z.kind) l ≡ true) q.is_all
        (and_true (nat_lt a x.kind) (list_all (λ z. nat_lt a z.kind) q.ks) p.0 (more q.ks q.is))
    by false true more f = absurd (none_some f)
    by false false more f = subst (λ l. list_all (λ z. nat_lt a z.kind) l ≡ true) (some_same f)
        (and_true (nat_lt a k.kind) (list_all (λ z. nat_lt a z.kind) (x ∷ xs)) h r)

rising_put : (k : TypeAndKey) (xs js : List TypeAndKey) → put k xs ≡ Some js → is_rising xs ≡ true → is_rising js ≡ true
rising_put k [] js e r = subst (λ l. is_rising l ≡ true) (some_same e) refl
rising_put k (x ∷ xs) js e r = by (nat_lt x.kind k.kind) (nat_eq x.kind k.kind) refl refl
    (λ ys f. rising_put k xs ys f p.1) e
  where
    p : (list_all (λ z. nat_lt x.kind z.kind) xs ≡ true) × (is_rising xs ≡ true)
    p = both (list_all (λ z. nat_lt x.kind z.kind) xs) (is_rising xs) r

    by : (b d : Bool) → nat_lt x.kind k.kind ≡ b → nat_eq x.kind k.kind ≡ d →
        ((ys : List TypeAndKey) → put k xs ≡ Some ys → is_rising ys ≡ true) → cond b (with_first x (put k xs))
        (cond d None (Some (k ∷ x ∷ xs))) ≡ Some js → is_rising js ≡ true
    by true d l m more f =
        let q = behind (put k xs) x js f in
        subst (λ l. is_rising l ≡ true) q.is_all (and_true (list_all (λ z. nat_lt x.kind z.kind) q.ks)
        (is_rising q.ks) (all_put x.kind k xs q.ks q.is l p.0) (more q.ks q.is))
    by false true l m more f = absurd (none_some f)
    by false false l m more f =
        let t = turned x.kind k.kind l m in
        subst (λ l. is_rising l ≡ true) (some_same f)
        (and_true (list_all (λ z. nat_lt k.kind z.kind) (x ∷ xs)) (is_rising (x ∷ xs))
        (and_true (nat_lt k.kind x.kind) (list_all (λ z. nat_lt k.kind z.kind) xs) t (all_above k.kind x.kind t xs p.0))
        r)

rising_placed : (o : Option TypeAndKey) (ks js : List TypeAndKey) → placed_if o ks ≡ Some js → is_rising ks ≡ true →
    is_rising js ≡ true
rising_placed None ks js e r = absurd (none_some e)
rising_placed (Some k) ks js e r = rising_put k ks js (sym (placed_put k ks) ∙ e) r

rising_keys : (s : SchemaModel) (ks : List TypeAndKey) (vs : List TypeAndValue) (js : List TypeAndKey) →
    keys_from s ks vs ≡ Some js → is_rising ks ≡ true → is_rising js ≡ true
rising_keys s ks [] js e r = subst (λ l. is_rising l ≡ true) (some_same e) r
rising_keys s ks (v ∷ vs) js e r = by (placed_if (type_and_key_of s v) ks) refl (λ ls f. rising_keys s ls vs js f) e
  where
    by : (o : Option (List TypeAndKey)) → placed_if (type_and_key_of s v) ks ≡ o →
        ((ls : List TypeAndKey) → keys_from s ls vs ≡ Some js → is_rising ls ≡ true → is_rising js ≡ true) →
        option_and_then (λ ls. keys_from s ls vs) o ≡ Some js → is_rising js ≡ true
    by None h more f = absurd (none_some f)
    by (Some ls) h more f = more ls f (rising_placed (type_and_key_of s v) ks ls h r)

rising_by : (o : Option (List TypeAndKey)) (vs : List TypeAndValue) (r : RdnModel) → rdn_by vs o ≡ Some r →
    o ≡ Some r.keys
rising_by None vs r e = absurd (none_some e)
rising_by (Some ks) vs r e = ap Some (ap (λ (q : RdnModel). q.keys) (some_same e))

rising_spelled : (o : Option (List TypeAndValue)) (s : SchemaModel) (r : RdnModel) → rdn_spelled s o ≡ Some r →
    is_rising r.keys ≡ true
rising_spelled None s r e = absurd (none_some e)
rising_spelled (Some vs) s r e = rising_keys s [] vs r.keys (rising_by (keys_from s [] vs) vs r e) refl

pub keys_rising : KeysAreRising
keys_rising s ts r e = rising_spelled (written_of s ts) s r e
