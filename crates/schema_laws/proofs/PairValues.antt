-- Pairs of names that were read, and their keys.
use Rattle.std.proofs.Common.{ℕ, zero, suc, ◌<◌, List, [], ◌∷◌, ◌++◌, Bool, true, false, cond, Option, None, Some, ◌≡◌, inl, inr, refl, sym, ap, ap₂, ◌∙◌, subst, map, slice_get, nat_eq, nat_lt, arith}
use Rattle.std.proofs.Math.Bool.{or-false}
use Rattle.std.proofs.lemmas.Bool.{ne_eqb}
use Rattle.std.specs.List.{AllByRecursion, list_all, filter}
use Rattle.ldap_match.specs.ldap_schema.Schema.{SchemaModel}
use Rattle.ldap_match.specs.ldap_schema.Rules.{equality_of}
use Rattle.ldap_match.specs.ldap_syntax.Forms.{is_met, is_met_by, is_text_met, TextsTell}
use Rattle.ldap_match.specs.ldap_words.declared.rule.Rule.{Rule}
use Rattle.ldap_match.specs.Truth.{truth_of, disjunction}
use Rattle.ldap_match.specs.declared.truth.Truth.{Truth}
use Rattle.ldap_match.specs.Keyed.{AreKeysBy, AreKeysOf, key_at}
use Rattle.ldap_match.proofs.Items.{KeysMean}
use Rattle.ldap_dn.specs.Names.{TypeAndValue, TypeAndKey, RdnModel}
use Rattle.ldap_dn.specs.Pairs.{PairModel, key_for, pair_in, pairs_in, pairs_of}
use Rattle.ldap_dn.specs.Texts.{type_and_key_of, keys_from, name_of_text}
use Rattle.ldap_dn.specs.Rising.{is_rising}
use Rattle.ldap_dn.proofs.NameTexts.{names_of_texts}
use Rattle.ldap_eval.specs.Matching.{match_on_pair}
use Rattle.ldap_eval.specs.Matched.{match_for, match_value, match_pair}
use Rattle.ldap_eval.specs.Value.{is_looked_at, match_on_name}
use Rattle.ldap_eval.specs.declared.naming_rules.How.{How}
use Rattle.ldap_eval.specs.declared.matching.MatchTest.{MatchTest}
use Rattle.ldap_eval.specs.declared.matching.MatchTest.TheVariants as test
use Rattle.ldap_eval.proofs.MatchValues.{on_values, on_pair}
use Rattle.schema_laws.specs.NamePairs.{IsRead, AreRead, match_on_one_value, PairsAreAttributes, NamesAreAttributes}
use Rattle.schema_laws.proofs.Joined.{right_true}
use Rattle.schema_laws.proofs.Valued.{all_append}
use Rattle.schema_laws.proofs.MeantNames.{Holds, now_there, above_first, IsKeyed, key_is, begins, stays, all_read, IsRead as IsKeyedRdn}

-- a type and a value has its key among these
record HasKey (s : SchemaModel) (js : List TypeAndKey) (v : TypeAndValue) : Type 0 where
  k : TypeAndKey
  is : type_and_key_of s v ≡ Some k
  held : Holds k js

each_has : (s : SchemaModel) (ks : List TypeAndKey) (vs : List TypeAndValue) (js : List TypeAndKey) →
    keys_from s ks vs ≡ Some js → AllByRecursion (HasKey s js) vs
each_has s ks [] js h = tt
each_has s ks (v ∷ vs) js h =
    let b = begins s ks v vs js h in (
      record {
        k = b.place.k;
        is = b.place.is;
        held = stays s b.place.k b.ls vs js b.rest
            (subst (Holds b.place.k) b.place.there (now_there b.place.k b.place.n ks));
      },
      each_has s b.ls vs js b.rest,
    )

-- the key beside a type in a rising list is the one that stands there
found_first : (k x : TypeAndKey) (xs : List TypeAndKey) (b : Bool) → x ≡ k → nat_eq x.kind k.kind ≡ b →
    cond b (Some x.key) (key_for k.kind xs) ≡ Some k.key
found_first k x xs true e q = ap (λ (z : TypeAndKey). Some z.key) e
found_first k x xs false e q = let same : x.kind ≡ k.kind = ap (λ (z : TypeAndKey). z.kind) e in absurd
    (grind (arith, q, same))

found : (k : TypeAndKey) (xs : List TypeAndKey) → is_rising xs ≡ true → Holds k xs → key_for k.kind xs ≡ Some k.key
found k [] r h = absurd h
found k (x ∷ xs) r (inl e) = found_first k x xs (nat_eq x.kind k.kind) e refl
found k (x ∷ xs) r (inr h) =
    let lt : x.kind < k.kind = above_first x k xs r h in
    ap (λ (b : Bool). cond b (Some x.key) (key_for k.kind xs)) (ne_eqb x.kind k.kind (λ e. omega (arith, lt, e)))
    ∙ found k xs (right_true (list_all (λ z. nat_lt x.kind z.kind) xs) (is_rising xs) r) h

-- a test on a pair with a key is the test on its value and that key
one_value : (t : MatchTest) (p : PairModel) (k : List ℕ) → p.key ≡ Some k → match_pair t p ≡ match_value t
    (p.value ∷ []) (k ∷ [])
one_value test.Unknown p k e = refl
one_value (test.Kept a) p k e = ap truth_of (ap (λ (o : Option (List ℕ)). is_met_by a.less a.key o) e
    ∙ sym (or-false (is_met a.less a.key k)))
one_value (test.Text r a) p k e = ap truth_of (sym (or-false (is_text_met r a.less a.key p.value)))

-- the pairs of a relative name are those of its spelling
all_over : {A B : Type 0} (P : A → Type 0) (Q : B → Type 0) (f : A → B) → ((x : A) → P x → Q (f x)) → (xs : List A) →
    AllByRecursion P xs → AllByRecursion Q (map f xs)
all_over P Q f g [] h = tt
all_over P Q f g (x ∷ xs) h = (g x h.0, all_over P Q f g xs h.1)

all_left_by : {A : Type 0} (P : A → Type 0) (b : Bool) (x : A) (xs : List A) → P x → AllByRecursion P xs →
    AllByRecursion P (cond b (x ∷ xs) xs)
all_left_by P true x xs p h = (p, h)
all_left_by P false x xs p h = h

all_left : {A : Type 0} (P : A → Type 0) (p : A → Bool) (xs : List A) → AllByRecursion P xs →
    AllByRecursion P (filter p xs)
all_left P p [] h = tt
all_left P p (x ∷ xs) h = all_left_by P (p x) x (filter p xs) h.0 (all_left P p xs h.1)

same_map : {A B : Type 0} (f g : A → B) (xs : List A) → AllByRecursion (λ x. f x ≡ g x) xs → map f xs ≡ map g xs
same_map f g [] h = refl
same_map f g (x ∷ xs) h = ap₂ (λ (y : _) (ys : List _). y ∷ ys) h.0 (same_map f g xs h.1)

at_place : {A : Type 0} (P : A → Type 0) (xs : List A) (i : ℕ) (x : A) → AllByRecursion P xs → slice_get xs i ≡
    Some x → P x
at_place P [] i x h e = absurd (cc)
at_place P (y ∷ ys) zero x h e = let same : y ≡ x = cc in subst P same h.0
at_place P (y ∷ ys) (suc i) x h e = at_place P ys i x h.1 e

module _ (s : SchemaModel) (h : How) (a : List ℕ) (laws : (r : Rule) → KeysMean s r) (tell : TextsTell) where
  keyed_pair : (v : TypeAndValue) (k : TypeAndKey) (p : PairModel) → IsKeyed s v k → p.kind ≡ v.kind →
      p.value ≡ v.value → p.key ≡ Some k.key → match_on_pair s h a p ≡ match_on_one_value s h a p
  keyed_pair v k p i t x e =
      let key : map (key_at s i.rule) (p.value ∷ []) ≡ map Some (k.key ∷ []) = ap (λ (o : Option (List ℕ)). o ∷ [])
      (ap (key_at s i.rule) x ∙ i.key) in
      let rule : equality_of s p.kind ≡ Some i.rule = ap (equality_of s) t ∙ i.is_rule in
      let kept : AreKeysOf s p.kind (p.value ∷ []) (k.key ∷ []) =
      subst (λ (o : Option Rule). AreKeysBy s o (p.value ∷ []) (k.key ∷ [])) (sym rule) key in
      sym (on_pair s h a laws tell p) ∙ one_value (match_for s h a p.kind) p k.key e ∙ on_values s h a laws tell
      p.kind (p.value ∷ []) (k.key ∷ []) kept

  pair_is : (js : List TypeAndKey) → is_rising js ≡ true → (v : TypeAndValue) → HasKey s js v →
      match_on_pair s h a (pair_in js v) ≡ match_on_one_value s h a (pair_in js v)
  pair_is js rises v q =
      let i : IsKeyed s v q.k = key_is s v q.k q.is in
      keyed_pair v q.k (pair_in js v) i refl refl (ap (λ (t : ℕ). key_for t js) (sym i.kind)
      ∙ found q.k js rises q.held)

  of_rdn : (r : RdnModel) → IsKeyedRdn s r → AllByRecursion (λ p. match_on_pair s h a p ≡ match_on_one_value s h a p)
      (pairs_in r)
  of_rdn r q =
      all_over (HasKey s r.keys) (λ p. match_on_pair s h a p ≡ match_on_one_value s h a p) (pair_in r.keys)
      (pair_is r.keys q.rising) r.spelling (each_has s [] r.spelling r.keys q.keys)

  keyed_rdn : (r : RdnModel) → IsRead s r → IsKeyedRdn s r
  keyed_rdn r q = at_place (IsKeyedRdn s) q.name q.place r (all_read s ((names_of_texts s q.text q.name).0 q.spells))
      q.there

  of_name : (n : List RdnModel) → AreRead s n → AllByRecursion (λ p. match_on_pair s h a p ≡ match_on_one_value s h a
      p) (pairs_of n)
  of_name [] q = tt
  of_name (r ∷ rs) q = all_append (λ p. match_on_pair s h a p ≡ match_on_one_value s h a p) (pairs_in r) (pairs_of rs)
      (of_rdn r (keyed_rdn r q.0)) (of_name rs q.1)

pub pairs_are_attributes : ((s : SchemaModel) (r : Rule) → KeysMean s r) → TextsTell → PairsAreAttributes
pairs_are_attributes laws tell s h a n q = same_map (match_on_pair s h a) (match_on_one_value s h a) (pairs_of n)
    (of_name s h a (laws s) tell n q)

pub names_are_attributes : ((s : SchemaModel) (r : Rule) → KeysMean s r) → TextsTell → NamesAreAttributes
names_are_attributes laws tell s h t a n q =
    ap disjunction
    (same_map (match_on_pair s h a) (match_on_one_value s h a) (filter (λ p. is_looked_at s h t p.kind) (pairs_of n))
    (all_left (λ p. match_on_pair s h a p ≡ match_on_one_value s h a p) (λ p. is_looked_at s h t p.kind) (pairs_of n)
    (of_name s h a (laws s) tell n q)))
