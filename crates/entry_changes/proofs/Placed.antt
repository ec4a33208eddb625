-- Attributes by their place.
use Rattle.std.proofs.Common.{ℕ, ◌+◌, zero, suc, List, [], ◌∷◌, ◌++◌, Bool, true, false, cond, not, ◌||◌, nat_eq, is_some, Option, None, Some, ◌≡◌, refl, ap, ap₂, sym, subst, ◌∙◌, map, take, drop, slice_get, arith}
use Rattle.std.specs.List.{prefix_len, list_any}
use Rattle.dir_entry.specs.Adding.{has_type}
use Rattle.entry_changes.specs.private.Compared.{values_held}
use Rattle.dir_entry.proofs.Shown.{has_type_shown}
use Rattle.std.proofs.lemmas.Bool.Decides.{nat_tests}
use Rattle.std.proofs.lemmas.List.{take-append-drop}
use Rattle.std.specs.Option.{option_map}
use Rattle.dir_entry.specs.ldap_schema.Schema.{SchemaModel}
use Rattle.dir_entry.specs.ldap_match.Keyed.{AreKeysOf}
use Rattle.dir_entry.specs.Entry.{AttributeModel, KeyedAttribute, shown, attributes_of, IsKeyedBy}
use Rattle.entry_changes.specs.Editing.{place, values_in, values_of, attribute_with, with_values_of, is_empty}

pub place_shown : (t : ℕ) (e : List KeyedAttribute) → prefix_len (λ a. not (nat_eq a.kind t)) e ≡
    place t (attributes_of e)
place_shown t [] = refl
place_shown t (a ∷ e) = ap (λ (n : ℕ). cond (not (nat_eq a.kind t)) (1 + n) 0) (place_shown t e)

one_more : (i : ℕ) → i + 1 ≡ suc i
one_more i = grind (arith)

take_front : {A : Type 0} (i : ℕ) (e : List A) → take i (take i e ++ drop (suc i) e) ≡ take i e
take_front zero e = refl
take_front (suc i) [] = refl
take_front (suc i) (x ∷ e) = ap (λ (ys : List _). x ∷ ys) (take_front i e)

drop_front : {A : Type 0} (i : ℕ) (e : List A) → drop i (take i e ++ drop (suc i) e) ≡ drop (suc i) e
drop_front zero e = refl
drop_front (suc i) [] = refl
drop_front (suc i) (x ∷ e) = drop_front i e

-- what was taken out is put back with other values
pub with_values_back : (t : ℕ) (e others : List AttributeModel) (values : List (List ℕ)) → others ≡ take (place t e)
    e ++ drop (place t e + 1) e
    → take (place t e) others ++ attribute_with t values ++ drop (place t e) others ≡ with_values_of t values e
with_values_back t e others values h =
    ap (λ (o : List AttributeModel). take (place t e) o ++ attribute_with t values ++ drop (place t e) o)
    (h ∙ ap (λ (n : ℕ). take (place t e) e ++ drop n e) (one_more (place t e)))
    ∙ ap₂ (λ (f b : List AttributeModel). f ++ attribute_with t values ++ b) (take_front (place t e) e)
    (drop_front (place t e) e)
    ∙ ap (λ (n : ℕ). take (place t e) e ++ attribute_with t values ++ drop n e) (sym (one_more (place t e)))

map_append : {A B : Type 0} (f : A → B) (xs ys : List A) → map f (xs ++ ys) ≡ map f xs ++ map f ys
map_append f [] ys = refl
map_append f (x ∷ xs) ys = ap (λ (zs : List _). f x ∷ zs) (map_append f xs ys)

map_take : {A B : Type 0} (f : A → B) (i : ℕ) (xs : List A) → map f (take i xs) ≡ take i (map f xs)
map_take f zero xs = refl
map_take f (suc i) [] = refl
map_take f (suc i) (x ∷ xs) = ap (λ (ys : List _). f x ∷ ys) (map_take f i xs)

map_drop : {A B : Type 0} (f : A → B) (i : ℕ) (xs : List A) → map f (drop i xs) ≡ drop i (map f xs)
map_drop f zero xs = refl
map_drop f (suc i) [] = refl
map_drop f (suc i) (x ∷ xs) = map_drop f i xs

pub others_shown : (i : ℕ) (e : List KeyedAttribute) → attributes_of (take i e ++ drop (i + 1) e) ≡
    take i (attributes_of e) ++ drop (i + 1) (attributes_of e)
others_shown i e = map_append shown (take i e) (drop (i + 1) e) ∙ ap₂ (λ (f b : List AttributeModel). f ++ b)
    (map_take shown i e) (map_drop shown (i + 1) e)

pub inserted_shown : (i : ℕ) (o : List KeyedAttribute) (a : KeyedAttribute) →
    attributes_of (take i o ++ a ∷ drop i o) ≡ take i (attributes_of o) ++ shown a ∷ drop i (attributes_of o)
inserted_shown i o a = map_append shown (take i o) (a ∷ drop i o)
    ∙ ap₂ (λ (f b : List AttributeModel). f ++ shown a ∷ b) (map_take shown i o) (map_drop shown i o)

pub slice_shown : (i : ℕ) (e : List KeyedAttribute) → slice_get (attributes_of e) i ≡ option_map shown (slice_get e i)
slice_shown i [] = refl
slice_shown zero (a ∷ e) = refl
slice_shown (suc i) (a ∷ e) = slice_shown i e

pub keyed_take : (s : SchemaModel) (i : ℕ) (e : List KeyedAttribute) → IsKeyedBy s e → IsKeyedBy s (take i e)
keyed_take s zero e h = tt
keyed_take s (suc i) [] h = tt
keyed_take s (suc i) (a ∷ e) h = (h.0, keyed_take s i e h.1)

pub keyed_drop : (s : SchemaModel) (i : ℕ) (e : List KeyedAttribute) → IsKeyedBy s e → IsKeyedBy s (drop i e)
keyed_drop s zero e h = h
keyed_drop s (suc i) [] h = tt
keyed_drop s (suc i) (a ∷ e) h = keyed_drop s i e h.1

pub keyed_append : (s : SchemaModel) (e f : List KeyedAttribute) → IsKeyedBy s e → IsKeyedBy s f → IsKeyedBy s (e ++ f)
keyed_append s [] f h k = k
keyed_append s (a ∷ e) f h k = (h.0, keyed_append s e f h.1 k)

pub keyed_at : (s : SchemaModel) (i : ℕ) (e : List KeyedAttribute) (a : KeyedAttribute) → slice_get e i ≡ Some a →
    IsKeyedBy s e → AreKeysOf s a.kind a.values a.keys
keyed_at s i [] a h k = absurd (cc)
keyed_at s zero (b ∷ e) a h k = let same : b ≡ a = cc in subst (λ (x : KeyedAttribute). AreKeysOf s x.kind x.values
    x.keys) same k.0
keyed_at s (suc i) (b ∷ e) a h k = keyed_at s i e a h k.1

same_number : {a b : ℕ} → nat_eq a b ≡ true → a ≡ b
same_number h = grind (arith, nat_tests, h)

next : {A : Type 0} (b : A) (e : List A) (n : ℕ) → slice_get (b ∷ e) (1 + n) ≡ slice_get e n
next b e n = ap (slice_get (b ∷ e)) (then_one n)
  where
    then_one : (n : ℕ) → 1 + n ≡ suc n
    then_one n = grind (arith)

-- the attribute in a type's place is of the type
pub kind_at : (t : ℕ) (e : List KeyedAttribute) (a : KeyedAttribute) →
    slice_get e (prefix_len (λ x. not (nat_eq x.kind t)) e) ≡ Some a → a.kind ≡ t
kind_at t [] a h = absurd (cc)
kind_at t (b ∷ e) a h = by_test (kind_at t e a) (nat_eq b.kind t) refl h
  where
    by_test : (slice_get e (prefix_len (λ x. not (nat_eq x.kind t)) e) ≡ Some a → a.kind ≡ t) → (q : Bool) →
        nat_eq b.kind t ≡ q → slice_get (b ∷ e) (cond (not q) (1 + prefix_len (λ x. not (nat_eq x.kind t)) e) 0) ≡
        Some a → a.kind ≡ t
    by_test up true e1 h1 = let same : b ≡ a = cc in ap (λ (x : KeyedAttribute). x.kind) (sym same) ∙ same_number e1
    by_test up false e1 h1 = up (sym (next b e (prefix_len (λ x. not (nat_eq x.kind t)) e)) ∙ h1)

pub keyed_inserted : (s : SchemaModel) (i : ℕ) (o : List KeyedAttribute) (a : KeyedAttribute) →
    AreKeysOf s a.kind a.values a.keys → IsKeyedBy s o → IsKeyedBy s (take i o ++ a ∷ drop i o)
keyed_inserted s i o a h k = keyed_append s (take i o) (a ∷ drop i o) (keyed_take s i o k) (h, keyed_drop s i o k)

pub keyed_others : (s : SchemaModel) (i : ℕ) (e : List KeyedAttribute) → IsKeyedBy s e →
    IsKeyedBy s (take i e ++ drop (i + 1) e)
keyed_others s i e k = keyed_append s (take i e) (drop (i + 1) e) (keyed_take s i e k) (keyed_drop s (i + 1) e k)

-- an attribute with values, as it is put back
pub attribute_back : (a : KeyedAttribute) (v : List ℕ) (vs : List (List ℕ)) → a.values ≡ v ∷ vs →
    attribute_with a.kind a.values ≡ shown a ∷ []
attribute_back a v vs h = ap (attribute_with a.kind) h
    ∙ ap (λ (w : List (List ℕ)). record { kind = a.kind; values = w } ∷ []) (sym h)

pub none_back : (i : ℕ) (o : List AttributeModel) → take i o ++ drop i o ≡ o
none_back i o = take-append-drop i o

one_between : {A : Type 0} (f : List A) (x : A) (b : List A) → f ++ x ∷ b ≡ (f ++ x ∷ []) ++ b
one_between [] x b = refl
one_between (y ∷ f) x b = ap (λ (ys : List _). y ∷ ys) (one_between f x b)

pub put_shown : (i : ℕ) (o : List KeyedAttribute) (a : KeyedAttribute) → is_empty a.values ≡ false
    → attributes_of (take i o ++ a ∷ drop i o) ≡ take i (attributes_of o) ++ attribute_with a.kind a.values ++ drop i
    (attributes_of o)
put_shown i o a h = by a.values refl h
  where
    by : (vs : List (List ℕ)) → a.values ≡ vs → is_empty vs ≡ false → attributes_of (take i o ++ a ∷ drop i o) ≡
        take i (attributes_of o) ++ attribute_with a.kind a.values ++ drop i (attributes_of o)
    by [] e k = absurd (cc)
    by (v ∷ vs) e k =
        inserted_shown i o a ∙ one_between (take i (attributes_of o)) (shown a) (drop i (attributes_of o))
        ∙ ap (λ (m : List AttributeModel). take i (attributes_of o) ++ m ++ drop i (attributes_of o))
        (sym (attribute_back a v vs e))

-- nothing is put back of an attribute that is gone
pub gone_shown : (i : ℕ) (o : List AttributeModel) (t : ℕ) (vs : List (List ℕ)) → is_empty vs ≡ true →
    o ≡ take i o ++ attribute_with t vs ++ drop i o
gone_shown i o t [] h = sym (take_none (take i o) (drop i o) ∙ none_back i o)
  where
    take_none : (f b : List AttributeModel) → (f ++ []) ++ b ≡ f ++ b
    take_none [] b = refl
    take_none (x ∷ f) b = ap (λ (z : List AttributeModel). x ∷ z) (take_none f b)
gone_shown i o t (v ∷ vs) h = absurd (cc)

pub values_at : (t : ℕ) (e : List KeyedAttribute) (i : ℕ) (o : Option KeyedAttribute) →
    i ≡ place t (attributes_of e) → o ≡ slice_get e i → values_held o ≡ values_of t (attributes_of e)
values_at t e i o h k =
    values_shown o
    ∙ ap values_in (ap (option_map shown) k ∙ sym (slice_shown i e))
    ∙ ap (λ (n : ℕ). values_in (slice_get (attributes_of e) n)) h
  where
    values_shown : (o : Option KeyedAttribute) → values_held o ≡ values_in (option_map shown o)
    values_shown None = refl
    values_shown (Some a) = refl

pub kind_there : (t : ℕ) (e : List KeyedAttribute) (i : ℕ) (o : Option KeyedAttribute) →
    i ≡ place t (attributes_of e) → o ≡ slice_get e i → (a : KeyedAttribute) → o ≡ Some a → a.kind ≡ t
kind_there t e i o h k a w = kind_at t e a (ap (slice_get e) (place_shown t e ∙ sym h) ∙ sym k ∙ w)

is_there : (t : ℕ) (e : List KeyedAttribute) → is_some (slice_get e (prefix_len (λ a. not (nat_eq a.kind t)) e)) ≡
    list_any (λ a. nat_eq a.kind t) e
is_there t [] = refl
is_there t (b ∷ e) = by_test (is_there t e) (nat_eq b.kind t)
  where
    by_test : (is_some (slice_get e (prefix_len (λ a. not (nat_eq a.kind t)) e)) ≡ list_any (λ a. nat_eq a.kind t)
        e) → (q : Bool)
        → is_some (slice_get (b ∷ e) (cond (not q) (1 + prefix_len (λ a. not (nat_eq a.kind t)) e) 0)) ≡
        (q || list_any (λ a. nat_eq a.kind t) e)
    by_test up true = refl
    by_test up false = ap is_some (next b e (prefix_len (λ a. not (nat_eq a.kind t)) e)) ∙ up

pub there : (t : ℕ) (e : List KeyedAttribute) (i : ℕ) (o : Option KeyedAttribute) → i ≡ place t (attributes_of e) →
    o ≡ slice_get e i → is_some o ≡ has_type t (attributes_of e)
there t e i o h k = ap is_some (k ∙ ap (slice_get e) (h ∙ sym (place_shown t e))) ∙ is_there t e
    ∙ sym (has_type_shown t e)

pub keys_there : (s : SchemaModel) (e : List KeyedAttribute) (i : ℕ) (o : Option KeyedAttribute) → o ≡ slice_get e i →
    IsKeyedBy s e → (a : KeyedAttribute) → o ≡ Some a → AreKeysOf s a.kind a.values a.keys
keys_there s e i o k h a w = keyed_at s i e a (sym k ∙ w) h
