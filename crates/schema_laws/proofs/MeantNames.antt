-- The keys of a relative name, and what its types and values mean.
use Rattle.std.proofs.Common.{ℕ, ◌<◌, List, [], ◌∷◌, ◌++◌, Bool, true, false, cond, Option, None, Some, ◌≡◌, ◌⊎◌, inl, inr, refl, sym, ap, ap₂, ◌∙◌, subst, take, drop, insert, slice_get, nat_lt, append-nil, arith}
use Rattle.std.specs.Option.{option_and_then}
use Rattle.std.proofs.lemmas.Bool.{ltb-true}
use Rattle.std.proofs.lemmas.List.{take-append-drop}
use Rattle.std.specs.List.{AllByRecursion, list_all}
use Rattle.ldap_match.specs.ldap_syntax.Meaning.{Meaning}
use Rattle.ldap_match.specs.ldap_words.declared.rule.Family.{Family}
use Rattle.ldap_match.specs.ldap_words.declared.rule.Family.TheVariants as family
use Rattle.ldap_match.specs.ldap_words.declared.rule.Rule.{Rule}
use Rattle.ldap_match.specs.ldap_schema.Schema.{SchemaModel}
use Rattle.ldap_match.specs.ldap_schema.Rules.{equality_of}
use Rattle.ldap_match.specs.ldap_dn.Meaning as plain
use Rattle.ldap_match.specs.ldap_dn.Keyed as plain_keys
use Rattle.ldap_match.specs.Meaning.{meaning}
use Rattle.ldap_match.specs.Keyed.{key_at}
use Rattle.ldap_match.proofs.Items.{KeyLaws, KeysMean, keys_mean}
use Rattle.ldap_match.proofs.Plain.{plain_meaning, plain_key}
use Rattle.ldap_dn.specs.Names.{TypeAndValue, TypeAndKey, RdnModel, rdns}
use Rattle.ldap_dn.specs.Texts.{meant, meant_key, family_key, keyed, type_and_key_of, count_below, is_of_type, placed_if, keys_from, written_from, rdn_by, rdn_spelled, rdn_of}
use Rattle.ldap_dn.specs.NameTexts.{AreWritten, no_part, a_part, IsRdn, AreRdns, no_rdn, an_rdn, IsNameText, is_empty, has_rdns}
use Rattle.ldap_dn.specs.Rising.{is_rising}
use Rattle.ldap_dn.specs.declared.token.Token.{Token}
use Rattle.ldap_dn.proofs.Spelled.{push_onto, none_some, some_same}
use Rattle.ldap_dn.proofs.Parted.{parted_split}
use Rattle.ldap_dn.proofs.Rising.{keys_rising}
use Rattle.ldap_dn.proofs.NameTexts.{names_of_texts}
use Rattle.schema_laws.specs.MeaningNames.{meaning_under, meaning_of, Says, says_first, says_later, AreOneByMeaning, both_end, and_the_same, NamesAreOneByMeaning}
use Rattle.schema_laws.proofs.Joined.{left_true, right_true}
use Rattle.schema_laws.proofs.PrintedAgain.{each_reverse}

-- ---- a key among keys

abbrev pub Holds : TypeAndKey → List TypeAndKey → Type 0
Holds k [] = ⊥
Holds k (x ∷ xs) = (x ≡ k) ⊎ Holds k xs

in_front : (k : TypeAndKey) (xs ys : List TypeAndKey) → Holds k xs → Holds k (xs ++ ys)
in_front k [] ys h = absurd h
in_front k (x ∷ xs) ys (inl e) = inl e
in_front k (x ∷ xs) ys (inr h) = inr (in_front k xs ys h)

in_back : (k : TypeAndKey) (xs ys : List TypeAndKey) → Holds k ys → Holds k (xs ++ ys)
in_back k [] ys h = h
in_back k (x ∷ xs) ys h = inr (in_back k xs ys h)

either_later : (k x : TypeAndKey) (xs ys : List TypeAndKey) → Holds k xs ⊎ Holds k ys → Holds k (x ∷ xs) ⊎ Holds k ys
either_later k x xs ys (inl h) = inl (inr h)
either_later k x xs ys (inr h) = inr h

in_either : (k : TypeAndKey) (xs ys : List TypeAndKey) → Holds k (xs ++ ys) → Holds k xs ⊎ Holds k ys
in_either k [] ys h = inr h
in_either k (x ∷ xs) ys (inl e) = inl (inl e)
in_either k (x ∷ xs) ys (inr h) = either_later k x xs ys (in_either k xs ys h)

halves : (k : TypeAndKey) (n : ℕ) (ks : List TypeAndKey) → Holds k ks → Holds k (take n ks) ⊎ Holds k (drop n ks)
halves k n ks h = in_either k (take n ks) (drop n ks) (subst (Holds k) (sym (take-append-drop n ks)) h)

one_more_by : (k x : TypeAndKey) (xs ys : List TypeAndKey) → Holds k xs ⊎ Holds k ys → Holds k (xs ++ x ∷ ys)
one_more_by k x xs ys (inl h) = in_front k xs (x ∷ ys) h
one_more_by k x xs ys (inr h) = in_back k xs (x ∷ ys) (inr h)

-- what was there is there beside one more
still_there : (k x : TypeAndKey) (n : ℕ) (ks : List TypeAndKey) → Holds k ks → Holds k (insert ks n x)
still_there k x n ks h = one_more_by k x (take n ks) (drop n ks) (halves k n ks h)

pub now_there : (x : TypeAndKey) (n : ℕ) (ks : List TypeAndKey) → Holds x (insert ks n x)
now_there x n ks = in_back x (take n ks) (x ∷ drop n ks) (inl refl)

was_there_by : (k x : TypeAndKey) (xs ys : List TypeAndKey) → Holds k xs ⊎ Holds k (x ∷ ys) → (x ≡ k)
    ⊎ Holds k (xs ++ ys)
was_there_by k x xs ys (inl h) = inr (in_front k xs ys h)
was_there_by k x xs ys (inr (inl e)) = inl e
was_there_by k x xs ys (inr (inr h)) = inr (in_back k xs ys h)

or_subst : (k x : TypeAndKey) (ks ls : List TypeAndKey) → ks ≡ ls → (x ≡ k) ⊎ Holds k ks → (x ≡ k) ⊎ Holds k ls
or_subst k x ks ls e (inl h) = inl h
or_subst k x ks ls e (inr h) = inr (subst (Holds k) e h)

was_there : (k x : TypeAndKey) (n : ℕ) (ks : List TypeAndKey) → Holds k (insert ks n x) → (x ≡ k) ⊎ Holds k ks
was_there k x n ks h =
    or_subst k x (take n ks ++ drop n ks) ks (take-append-drop n ks) (was_there_by k x (take n ks) (drop n ks)
    (in_either k (take n ks) (x ∷ drop n ks) h))

-- ---- rising lists with the same members

held_passes : (p : TypeAndKey → Bool) (k : TypeAndKey) (xs : List TypeAndKey) → list_all p xs ≡ true → Holds k xs →
    p k ≡ true
held_passes p k [] a h = absurd h
held_passes p k (x ∷ xs) a (inl e) = ap p (sym e) ∙ left_true (p x) (list_all p xs) a
held_passes p k (x ∷ xs) a (inr h) = held_passes p k xs (right_true (p x) (list_all p xs) a) h

pub above_first : (x k : TypeAndKey) (xs : List TypeAndKey) → is_rising (x ∷ xs) ≡ true → Holds k xs → x.kind < k.kind
above_first x k xs r h =
    ltb-true x.kind k.kind (held_passes (λ z. nat_lt x.kind z.kind) k xs
    (left_true (list_all (λ z. nat_lt x.kind z.kind) xs) (is_rising xs) r) h)

same_first : (x y : TypeAndKey) (xs ys : List TypeAndKey) → is_rising (x ∷ xs) ≡ true → is_rising (y ∷ ys) ≡ true →
    Holds x (y ∷ ys) → Holds y (x ∷ xs) → x ≡ y
same_first x y xs ys r q (inl e) g = sym e
same_first x y xs ys r q (inr h) (inl e) = e
same_first x y xs ys r q (inr h) (inr g) = absurd (omega (arith, above_first x y xs r g, above_first y x ys q h))

not_first : (x k y : TypeAndKey) (xs ys : List TypeAndKey) → is_rising (x ∷ xs) ≡ true → x ≡ y → Holds k xs →
    Holds k (y ∷ ys) → Holds k ys
not_first x k y xs ys r e h (inr g) = g
not_first x k y xs ys r e h (inl g) =
    let same : x.kind ≡ k.kind = ap (λ (z : TypeAndKey). z.kind) (e ∙ g) in
    absurd (omega (arith, same, above_first x k xs r h))

same_lists : (xs ys : List TypeAndKey) → is_rising xs ≡ true → is_rising ys ≡ true → ((k : TypeAndKey) → Holds k xs →
    Holds k ys) → ((k : TypeAndKey) → Holds k ys → Holds k xs) → xs ≡ ys
same_lists [] [] r q f g = refl
same_lists [] (y ∷ ys) r q f g = absurd (g y (inl refl))
same_lists (x ∷ xs) [] r q f g = absurd (f x (inl refl))
same_lists (x ∷ xs) (y ∷ ys) r q f g =
    let first : x ≡ y = same_first x y xs ys r q (f x (inl refl)) (g y (inl refl)) in
    let rest : xs ≡ ys = same_lists xs ys
    (right_true (list_all (λ z. nat_lt x.kind z.kind) xs) (is_rising xs) r)
    (right_true (list_all (λ z. nat_lt y.kind z.kind) ys) (is_rising ys) q)
    (λ k h. not_first x k y xs ys r first h (f k (inr h)))
    (λ k h. not_first y k x ys xs q (sym first) h (g k (inr h))) in
    ap₂ (λ (z : TypeAndKey) (zs : List TypeAndKey). z ∷ zs) first rest

-- ---- the key of a type and a value

pub record IsKeyed (s : SchemaModel) (v : TypeAndValue) (k : TypeAndKey) : Type 0 where
  pub rule : Rule
  pub is_rule : equality_of s v.kind ≡ Some rule
  pub kind : k.kind ≡ v.kind
  pub plainly : rule.family ≡ family.Name → ⊥
  pub says : Meaning
  pub means : plain.meaning s rule v.value ≡ Some says
  pub key : key_at s rule v.value ≡ Some k.key

no_name : (s : SchemaModel) (r : Rule) (f : Family) (v x : List ℕ) → family_key s r f v ≡ Some x →
    (f ≡ family.Name → ⊥) × (meant_key s r v ≡ Some x)
no_name s r family.Name v x h = absurd (none_some h)
no_name s r family.Identifier v x h = (λ e. cc, h)
no_name s r family.Ignore v x h = (λ e. cc, h)
no_name s r family.Exact v x h = (λ e. cc, h)
no_name s r family.Numeric v x h = (λ e. cc, h)
no_name s r family.Boolean v x h = (λ e. cc, h)
no_name s r family.Integer v x h = (λ e. cc, h)
no_name s r family.Octet v x h = (λ e. cc, h)
no_name s r family.Telephone v x h = (λ e. cc, h)
no_name s r family.Time v x h = (λ e. cc, h)
no_name s r family.Ia5 v x h = (λ e. cc, h)
no_name s r family.Ia5Exact v x h = (λ e. cc, h)

meant_is : (m : Option Meaning) (k : Option (List ℕ)) (x : List ℕ) → meant m k ≡ Some x → (n : Meaning) × (m ≡ Some n)
    × (k ≡ Some x)
meant_is None k x h = absurd (none_some h)
meant_is (Some n) k x h = (n, refl, h)

keyed_is : (t : ℕ) (o : Option (List ℕ)) (k : TypeAndKey) → keyed t o ≡ Some k → (k.kind ≡ t) × (o ≡ Some k.key)
keyed_is t None k h = absurd (none_some h)
keyed_is t (Some x) k h = (
  sym (ap (λ (z : TypeAndKey). z.kind) (some_same h)),
  ap (λ (z : TypeAndKey).
      Some z.key) (some_same h),
)

keyed_by : (s : SchemaModel) (v : TypeAndValue) (k : TypeAndKey) (o : Option Rule) → equality_of s v.kind ≡ o →
    keyed v.kind (option_and_then (λ (r : Rule). family_key s r r.family v.value) o) ≡ Some k → IsKeyed s v k
keyed_by s v k None e h = absurd (none_some h)
keyed_by s v k (Some r) e h =
    let parts = keyed_is v.kind (family_key s r r.family v.value) k h in
    let plainly = no_name s r r.family v.value k.key parts.1 in
    let both = meant_is (plain.meaning s r v.value) (plain_keys.key_at s r v.value) k.key plainly.1 in
    record {
      rule = r;
      is_rule = e;
      kind = parts.0;
      plainly = plainly.0;
      says = both.0;
      means = both.1;
      key = plain_key s r v.value plainly.0 ∙ both.2;
    }

pub key_is : (s : SchemaModel) (v : TypeAndValue) (k : TypeAndKey) → type_and_key_of s v ≡ Some k → IsKeyed s v k
key_is s v k h = keyed_by s v k (equality_of s v.kind) refl h

-- ---- keys in their places

pub record IsPlaced (o : Option TypeAndKey) (ks ls : List TypeAndKey) : Type 0 where
  pub k : TypeAndKey
  pub is : o ≡ Some k
  pub n : ℕ
  pub there : insert ks n k ≡ ls

placed_by : (b : Bool) (k : TypeAndKey) (n : ℕ) (ks ls : List TypeAndKey) → cond b None (Some (insert ks n k)) ≡
    Some ls → IsPlaced (Some k) ks ls
placed_by true k n ks ls h = absurd (none_some h)
placed_by false k n ks ls h = record { k = k; is = refl; n = n; there = some_same h }

place_is : (o : Option TypeAndKey) (ks ls : List TypeAndKey) → placed_if o ks ≡ Some ls → IsPlaced o ks ls
place_is None ks ls h = absurd (none_some h)
place_is (Some k) ks ls h = placed_by (is_of_type k.kind (slice_get ks (count_below k.kind ks))) k
    (count_below k.kind ks) ks ls h

-- the first type and value has its place, and the others follow
pub record Begins (s : SchemaModel) (ks : List TypeAndKey) (v : TypeAndValue) (vs : List TypeAndValue)
    (js : List TypeAndKey) : Type 0 where
  pub ls : List TypeAndKey
  pub place : IsPlaced (type_and_key_of s v) ks ls
  pub rest : keys_from s ls vs ≡ Some js

begins_by : (s : SchemaModel) (ks : List TypeAndKey) (v : TypeAndValue) (vs : List TypeAndValue)
    (js : List TypeAndKey) (o : Option (List TypeAndKey)) → placed_if (type_and_key_of s v) ks ≡ o →
    option_and_then (λ ls. keys_from s ls vs) o ≡ Some js → Begins s ks v vs js
begins_by s ks v vs js None e h = absurd (none_some h)
begins_by s ks v vs js (Some ls) e h = record { ls = ls; place = place_is (type_and_key_of s v) ks ls e; rest = h }

pub begins : (s : SchemaModel) (ks : List TypeAndKey) (v : TypeAndValue) (vs : List TypeAndValue)
    (js : List TypeAndKey) → keys_from s ks (v ∷ vs) ≡ Some js → Begins s ks v vs js
begins s ks v vs js h = begins_by s ks v vs js (placed_if (type_and_key_of s v) ks) refl h

pub stays : (s : SchemaModel) (k : TypeAndKey) (ks : List TypeAndKey) (vs : List TypeAndValue)
    (js : List TypeAndKey) → keys_from s ks vs ≡ Some js → Holds k ks → Holds k js
stays s k ks [] js e h = subst (Holds k) (some_same e) h
stays s k ks (v ∷ vs) js e h =
    let b = begins s ks v vs js e in
    stays s k b.ls vs js b.rest (subst (Holds k) b.place.there (still_there k b.place.k b.place.n ks h))

-- ---- what is said, by its key

record Told (s : SchemaModel) (t : ℕ) (m : Meaning) (js : List TypeAndKey) : Type 0 where
  k : TypeAndKey
  held : Holds k js
  kind : k.kind ≡ t
  rule : Rule
  is_rule : equality_of s t ≡ Some rule
  value : List ℕ
  means : meaning s rule value ≡ Some m
  key : key_at s rule value ≡ Some k.key

told_first : (s : SchemaModel) (t : ℕ) (m : Meaning) (v : TypeAndValue) (k : TypeAndKey) (js : List TypeAndKey) →
    v.kind ≡ t → meaning_of s t v.value ≡ Some m → IsKeyed s v k → Holds k js → Told s t m js
told_first s t m v k js q n i h =
    let is : equality_of s t ≡ Some i.rule = ap (equality_of s) (sym q) ∙ i.is_rule in
    record {
      k = k;
      held = h;
      kind = i.kind ∙ q;
      rule = i.rule;
      is_rule = is;
      value = v.value;
      means = plain_meaning s
          i.rule v.value i.plainly ∙ sym (ap (λ o. meaning_under s o v.value) is) ∙ n;
      key = i.key;
    }

told : (s : SchemaModel) (t : ℕ) (m : Meaning) (ks js : List TypeAndKey) {vs : List TypeAndValue} → Says s t m vs →
    keys_from s ks vs ≡ Some js → Told s t m js
told s t m ks js (says_first {vs} v q n) e =
    let b = begins s ks v vs js e in
    told_first s t m v b.place.k js q n (key_is s v b.place.k b.place.is) (stays s b.place.k b.ls vs js b.rest
    (subst (Holds b.place.k) b.place.there (now_there b.place.k b.place.n ks)))
told s t m ks js (says_later {vs} v says) e =
    let b = begins s ks v vs js e in
    told s t m b.ls js says b.rest

-- ---- a key, by what is said

record IsSaid (s : SchemaModel) (k : TypeAndKey) (vs : List TypeAndValue) : Type 0 where
  m : Meaning
  says : Says s k.kind m vs
  rule : Rule
  is_rule : equality_of s k.kind ≡ Some rule
  value : List ℕ
  means : meaning s rule value ≡ Some m
  key : key_at s rule value ≡ Some k.key

said_first : (s : SchemaModel) (k : TypeAndKey) (v : TypeAndValue) (vs : List TypeAndValue) → IsKeyed s v k →
    IsSaid s k (v ∷ vs)
said_first s k v vs i =
    let is : equality_of s k.kind ≡ Some i.rule = ap (equality_of s) i.kind ∙ i.is_rule in
    record {
      m = i.says;
      says = says_first v (sym i.kind) (ap (λ o. meaning_under s o v.value) is ∙ i.means);
      rule =
          i.rule;
      is_rule = is;
      value = v.value;
      means = plain_meaning s i.rule v.value i.plainly ∙ i.means;
      key = i.key;
    }

said_later : (s : SchemaModel) (k : TypeAndKey) (v : TypeAndValue) (vs : List TypeAndValue) → IsSaid s k vs →
    IsSaid s k (v ∷ vs)
said_later s k v vs i = record {
  m = i.m;
  says = says_later v i.says;
  rule = i.rule;
  is_rule = i.is_rule;
  value =
      i.value;
  means = i.means;
  key = i.key;
}

said_or : (s : SchemaModel) (k x : TypeAndKey) (ks : List TypeAndKey) (v : TypeAndValue) (vs : List TypeAndValue) →
    IsKeyed s v x → (x ≡ k) ⊎ Holds k ks → Holds k ks ⊎ IsSaid s k (v ∷ vs)
said_or s k x ks v vs i (inl e) = inr (said_first s k v vs (subst (IsKeyed s v) e i))
said_or s k x ks v vs i (inr h) = inl h

said_on : (s : SchemaModel) (k : TypeAndKey) (ks ls : List TypeAndKey) (v : TypeAndValue) (vs : List TypeAndValue) →
    IsPlaced (type_and_key_of s v) ks ls → Holds k ls ⊎ IsSaid s k vs → Holds k ks ⊎ IsSaid s k (v ∷ vs)
said_on s k ks ls v vs p (inl h) = said_or s k p.k ks v vs (key_is s v p.k p.is)
    (was_there k p.k p.n ks (subst (Holds k) (sym p.there) h))
said_on s k ks ls v vs p (inr i) = inr (said_later s k v vs i)

said : (s : SchemaModel) (k : TypeAndKey) (ks : List TypeAndKey) (vs : List TypeAndValue) (js : List TypeAndKey) →
    keys_from s ks vs ≡ Some js → Holds k js → Holds k ks ⊎ IsSaid s k vs
said s k ks [] js e h = inl (subst (Holds k) (sym (some_same e)) h)
said s k ks (v ∷ vs) js e h =
    let b = begins s ks v vs js e in
    said_on s k ks b.ls v vs b.place (said s k b.ls vs js b.rest h)

from_none : (s : SchemaModel) (k : TypeAndKey) (vs : List TypeAndValue) → Holds k [] ⊎ IsSaid s k vs → IsSaid s k vs
from_none s k vs (inl h) = absurd h
from_none s k vs (inr i) = i

-- ---- relative names that were read

pub record IsRead (s : SchemaModel) (r : RdnModel) : Type 0 where
  pub keys : keys_from s [] r.spelling ≡ Some r.keys
  pub rising : is_rising r.keys ≡ true

made : ℕ → List ℕ → TypeAndKey
made k v = record { kind = k; key = v }

same_rule : (s : SchemaModel) (t u : ℕ) (p q : Rule) → t ≡ u → equality_of s t ≡ Some p → equality_of s u ≡ Some q →
    p ≡ q
same_rule s t u p q e h i = some_same (sym h ∙ ap (equality_of s) e ∙ i)

says_over_by : (s : SchemaModel) (t : ℕ) (m : Meaning) (js : List TypeAndKey) (vs : List TypeAndValue) →
    ((r : Rule) → KeysMean s r) → (h : Told s t m js) → IsSaid s h.k vs → Says s t m vs
says_over_by s t m js vs laws h i =
    let rules : i.rule ≡ h.rule = same_rule s h.k.kind t i.rule h.rule h.kind i.is_rule h.is_rule in
    let means : meaning s h.rule i.value ≡ Some i.m = subst (λ x. meaning s x i.value ≡ Some i.m) rules i.means in
    let key : key_at s h.rule i.value ≡ Some h.k.key = subst (λ x. key_at s x i.value ≡ Some h.k.key) rules i.key in
    let same : i.m ≡ m = ((laws h.rule).is_equal i.value h.value i.m m h.k.key h.k.key means h.means key h.key).0 refl
    in
    subst (λ x. Says s x m vs) h.kind (subst (λ x. Says s h.k.kind x vs) same i.says)

says_over : (s : SchemaModel) (a b : RdnModel) → ((r : Rule) → KeysMean s r) → IsRead s a → IsRead s b →
    a.keys ≡ b.keys → (t : ℕ) (m : Meaning) → Says s t m a.spelling → Says s t m b.spelling
says_over s a b laws p q e t m h =
    let f = told s t m [] a.keys h p.keys in
    says_over_by s t m a.keys b.spelling laws f (from_none s f.k b.spelling (said s f.k [] b.spelling b.keys q.keys
    (subst (Holds f.k) e f.held)))

held_over_by : (s : SchemaModel) (k : TypeAndKey) (js : List TypeAndKey) (vs : List TypeAndValue) →
    ((r : Rule) → KeysMean s r) → (i : IsSaid s k vs) → Told s k.kind i.m js → Holds k js
unfolding made
held_over_by s k js vs laws i h =
    let rules : i.rule ≡ h.rule = same_rule s k.kind k.kind i.rule h.rule refl i.is_rule h.is_rule in
    let means : meaning s h.rule i.value ≡ Some i.m = subst (λ x. meaning s x i.value ≡ Some i.m) rules i.means in
    let key : key_at s h.rule i.value ≡ Some k.key = subst (λ x. key_at s x i.value ≡ Some k.key) rules i.key in
    let same : h.k.key ≡ k.key = ((laws h.rule).is_equal h.value i.value i.m i.m h.k.key k.key h.means means h.key
    key).1 refl in
    let one : h.k ≡ k = ap₂ (λ (t : ℕ) (v : List ℕ). made t v) h.kind same in
    subst (λ x. Holds x js) one h.held

held_over : (s : SchemaModel) (a b : RdnModel) → ((r : Rule) → KeysMean s r) → IsRead s a → IsRead s b →
    ((t : ℕ) (m : Meaning) → Says s t m a.spelling → Says s t m b.spelling) → (k : TypeAndKey) → Holds k a.keys →
    Holds k b.keys
held_over s a b laws p q over k h =
    let i = from_none s k a.spelling (said s k [] a.spelling a.keys p.keys h) in
    held_over_by s k b.keys a.spelling laws i (told s k.kind i.m [] b.keys (over k.kind i.m i.says) q.keys)

-- ---- names that were read

head_is : {A : Type 0} (x y : A) (xs ys : List A) → x ∷ xs ≡ y ∷ ys → x ≡ y
head_is x y xs ys e = cc

tail_is : {A : Type 0} (x y : A) (xs ys : List A) → x ∷ xs ≡ y ∷ ys → xs ≡ ys
tail_is x y xs ys e = cc

one_by_meaning : (s : SchemaModel) → ((r : Rule) → KeysMean s r) → (a b : List RdnModel) → AllByRecursion (IsRead s)
    a → AllByRecursion (IsRead s) b → rdns a ≡ rdns b → AreOneByMeaning s a b
one_by_meaning s laws [] [] p q e = both_end
one_by_meaning s laws [] (y ∷ b) p q e = absurd (cc)
one_by_meaning s laws (x ∷ a) [] p q e = absurd (cc)
one_by_meaning s laws (x ∷ a) (y ∷ b) p q e =
    let first : x.keys ≡ y.keys = head_is x.keys y.keys (rdns a) (rdns b) e in
    and_the_same x y
    (λ t m. (says_over s x y laws p.0 q.0 first t m, says_over s y x laws q.0 p.0 (sym first) t m))
    (one_by_meaning s laws a b p.1 q.1 (tail_is x.keys y.keys (rdns a) (rdns b) e))

one_by_keys : (s : SchemaModel) → ((r : Rule) → KeysMean s r) → {a b : List RdnModel} → AreOneByMeaning s a b →
    AllByRecursion (IsRead s) a → AllByRecursion (IsRead s) b → rdns a ≡ rdns b
one_by_keys s laws both_end p q = refl
one_by_keys s laws (and_the_same {a} {b} x y same more) p q =
    let first : x.keys ≡ y.keys = same_lists x.keys y.keys p.0.rising q.0.rising
    (held_over s x y laws p.0 q.0 (λ t m. (same t m).0))
    (held_over s y x laws q.0 p.0 (λ t m. (same t m).1)) in
    ap₂ (λ (z : List TypeAndKey) (zs : List (List TypeAndKey)). z ∷ zs) first (one_by_keys s laws more p.1 q.1)

written_here : (s : SchemaModel) (so_far : List TypeAndValue) {parts : List (List Token)} {vs : List TypeAndValue} →
    AreWritten s parts vs → written_from s so_far parts ≡ Some (so_far ++ vs)
written_here s so_far no_part = ap Some (sym (append-nil so_far))
written_here s so_far (a_part {parts} {vs} p v e q) =
    ap (λ o. option_and_then (λ w. written_from s (so_far ++ w ∷ []) parts) o) e
    ∙ written_here s (so_far ++ v ∷ []) q
    ∙ ap Some (push_onto so_far v vs)

rdn_is : (s : SchemaModel) (ts : List Token) (r : RdnModel) → IsRdn s ts r → rdn_of s ts ≡ Some r
rdn_is s ts r i =
    ap (λ l. rdn_spelled s (written_from s [] l)) (parted_split 43 i.is_parted)
    ∙ ap (rdn_spelled s) (written_here s [] i.are_written)
    ∙ ap (rdn_by r.spelling) i.are_keys

each_read : (s : SchemaModel) {parts : List (List Token)} {rs : List RdnModel} → AreRdns s parts rs →
    AllByRecursion (IsRead s) rs
each_read s no_rdn = tt
each_read s (an_rdn p r i q) = (
  record {
    keys = i.are_keys;
    rising = keys_rising s p r (rdn_is s p r i);
  },
  each_read s q,
)

pub all_read : (s : SchemaModel) {text : List ℕ} {name : List RdnModel} → IsNameText s text name →
    AllByRecursion (IsRead s) name
all_read s (is_empty q b) = tt
all_read s (has_rdns {text} {ts} {parts} {rs} q b p r) = each_reverse (IsRead s) rs (each_read s r)

pub names_are_one_by_meaning : KeyLaws → NamesAreOneByMeaning
names_are_one_by_meaning known s first second a b h i =
    let laws : (r : Rule) → KeysMean s r = λ r. keys_mean known s r in
    let p = all_read s ((names_of_texts s first a).0 h) in
    let q = all_read s ((names_of_texts s second b).0 i) in
    (λ e. one_by_meaning s laws a b p q e, λ e. one_by_keys s laws e p q)
