-- Keys of values, and entries with one attribute more.
use Rattle.std.proofs.Common.{ℕ, List, [], ◌∷◌, ◌++◌, Bool, ◌&&◌, Option, None, Some, ◌≡◌, refl, ap, ap₂, sym, subst, ◌∙◌, map}
use Rattle.std.specs.List.{list_all}
use Rattle.ldap_match.specs.ldap_words.declared.rule.Rule.{Rule}
use Rattle.ldap_match.specs.ldap_schema.Schema.{SchemaModel}
use Rattle.ldap_match.specs.ldap_schema.Rules.{equality_of}
use Rattle.ldap_match.specs.Keyed.{key_at, AreKeysBy, AreKeysOf}
use Rattle.dir_entry.specs.Entry.{KeyedAttribute, IsKeyedBy}
use Rattle.value_parts.specs.Picked.{picked}
use Rattle.value_parts.proofs.Picked.{map_picked}

pub list_all-map : {A B : Type 0} (p : B → Bool) (f : A → B) (xs : List A) → list_all p (map f xs) ≡
    list_all (λ x. p (f x)) xs
list_all-map p f [] = refl
list_all-map p f (x ∷ xs) = ap (λ (b : Bool). p (f x) && b) (list_all-map p f xs)

pub map-map : {A B C : Type 0} (g : B → C) (f : A → B) (xs : List A) → map g (map f xs) ≡ map (λ x. g (f x)) xs
map-map g f [] = refl
map-map g f (x ∷ xs) = ap (λ (ys : List _). g (f x) ∷ ys) (map-map g f xs)

pub keyed_from : {A : Type 0} (s : SchemaModel) (t : ℕ) (r : Rule) (items : A → List ℕ) (values : List A)
    (keys : List (List ℕ)) → Some r ≡ equality_of s t → map Some keys ≡ map (λ v. key_at s r (items v)) values →
    AreKeysOf s t (map items values) keys
keyed_from s t r items values keys e h = subst (λ (o : Option Rule). AreKeysBy s o (map items values) keys) e
    (map-map (key_at s r) items values ∙ sym h)

pub keyed_push : (s : SchemaModel) (e : List KeyedAttribute) (a : KeyedAttribute) → AreKeysOf s a.kind a.values
    a.keys → IsKeyedBy s e → IsKeyedBy s (e ++ a ∷ [])
keyed_push s [] a h k = (h, tt)
keyed_push s (b ∷ e) a h k = (k.0, keyed_push s e a h k.1)

map_join : {A B : Type 0} (f : A → B) (xs ys : List A) → map f (xs ++ ys) ≡ map f xs ++ map f ys
map_join f [] ys = refl
map_join f (x ∷ xs) ys = ap (λ (zs : List _). f x ∷ zs) (map_join f xs ys)

keyed_by_join : (s : SchemaModel) (o : Option Rule) (vs ks ws ls : List (List ℕ)) → AreKeysBy s o vs ks →
    AreKeysBy s o ws ls → AreKeysBy s o (vs ++ ws) (ks ++ ls)
keyed_by_join s None vs ks ws ls h k = tt
keyed_by_join s (Some r) vs ks ws ls h k = map_join (key_at s r) vs ws
    ∙ ap₂ (λ (a b : List (Option (List ℕ))). a ++ b) h k ∙ sym (map_join Some ks ls)

pub keyed_join : (s : SchemaModel) (t : ℕ) (vs ks ws ls : List (List ℕ)) → AreKeysOf s t vs ks → AreKeysOf s t ws ls →
    AreKeysOf s t (vs ++ ws) (ks ++ ls)
keyed_join s t vs ks ws ls h k = keyed_by_join s (equality_of s t) vs ks ws ls h k

keyed_by_picked : (s : SchemaModel) (o : Option Rule) (ms : List Bool) (vs ks : List (List ℕ)) → AreKeysBy s o vs ks →
    AreKeysBy s o (picked ms vs) (picked ms ks)
keyed_by_picked s None ms vs ks h = tt
keyed_by_picked s (Some r) ms vs ks h = map_picked (key_at s r) ms vs ∙ ap (picked ms) h ∙ sym (map_picked Some ms ks)

pub keyed_picked : (s : SchemaModel) (t : ℕ) (ms : List Bool) (vs ks : List (List ℕ)) → AreKeysOf s t vs ks →
    AreKeysOf s t (picked ms vs) (picked ms ks)
keyed_picked s t ms vs ks h = keyed_by_picked s (equality_of s t) ms vs ks h
