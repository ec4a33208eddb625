-- Changes by values: a test of keys that no named value passes tells the entry before from that after in nothing.
use Rattle.std.proofs.Common.{ℕ, ◌+◌, suc, List, [], ◌∷◌, ◌++◌, Bool, true, false, cond, not, ◌&&◌, ◌||◌, nat_eq, Option, None, Some, Result, Ok, Err, is_some, ◌≡◌, refl, ap, ap₂, sym, subst, ◌∙◌, map, take, drop}
use Rattle.std.specs.Prelude.{filter, nat_lt, length}
use Rattle.std.specs.List.{list_any, list_all, slice_get}
use Rattle.std.specs.Option.{ok_or}
use Rattle.std.specs.Str.{bytes_eq}
use Rattle.std.proofs.lemmas.Bool.{eqb-true, eq-eqb}
use Rattle.std.proofs.lemmas.List.{append-nil}
use Rattle.std.proofs.lemmas.List.Folds.{list_any-append}
use Rattle.std.proofs.lemmas.Slice.Eq.{bytes_eq-Decides}
use Rattle.entry_changes.specs.ldap_schema.Schema.{SchemaModel, find}
use Rattle.dir_entry.specs.ldap_words.declared.rule.Rule.{Rule}
use Rattle.entry_changes.specs.ldap_schema.Rules.{equality_of}
use Rattle.entry_changes.specs.ldap_dn.Names.{TypeAndValue}
use Rattle.ldap_op.specs.ldap_parts.UpdateValues.{ChangeValue}
use Rattle.ldap_op.specs.ldap_parts.declared.modify.ModifyOperation.{ModifyOperation}
use Rattle.ldap_op.specs.ldap_parts.declared.modify.ModifyOperation.TheVariants.{Add, Delete, Replace, Increment}
use Rattle.entry_changes.specs.dir_entry.Entry.{AttributeModel, KeyedAttribute, shown, attributes_of, IsKeyedBy, are_in_syntax}
use Rattle.entry_changes.specs.dir_entry.ldap_match.Keyed.{key_at}
use Rattle.entry_changes.specs.dir_entry.Values.{has_repeats}
use Rattle.entry_changes.specs.dir_entry.Adding.{refuse, has_type}
use Rattle.entry_changes.specs.Editing.{place, values_in, values_of, values_left, holds, attribute_with, with_values_of, is_empty, with_added, with_deleted}
use Rattle.entry_changes.specs.Naming.{and_then}
use Rattle.dir_entry.proofs.Equivalents.{TestsAreItems, any_alike}
use Rattle.entry_updates.specs.Classes.{is_object_class}
use Rattle.entry_updates.specs.Finishing.{kept}
use Rattle.entry_updates.specs.Modifying.{is_increment, with_change, all_changed, attributes_changed}
use Rattle.entry_updates.specs.private.Touched.{of_type}
use Rattle.entry_updates.specs.Touched.{is_of_values, is_by_values, type_whole, values_named, types_whole, all_values_named, types_unruled, types_touched}
use Rattle.entry_updates.proofs.Untouched.{then_one, suc_one, Keeps, Stays, otherwise, go_on, change_stays, turned, left_off, right_off, kept_stays, keys_by, not_class, type_shown, keyed_stay}

-- ---- a test of the values of a type

-- whether some value of a type passes
abbrev some_of : ℕ → (List ℕ → Bool) → List AttributeModel → Bool
some_of u g e = list_any (λ a. nat_eq a.kind u && list_any g a.values) e

some_there : (u : ℕ) (g : List ℕ → Bool) (e : List AttributeModel) → some_of u g (of_type u e) ≡ some_of u g e
some_there u g [] = refl
some_there u g (a ∷ e) = by (nat_eq a.kind u) refl (some_there u g e)
  where
    by : (b : Bool) → nat_eq a.kind u ≡ b → some_of u g (of_type u e) ≡ some_of u g e →
        some_of u g (cond b (a ∷ of_type u e) (of_type u e)) ≡ ((b && list_any g a.values) || some_of u g e)
    by true k ih = ap₂ (λ (x y : Bool). (x && list_any g a.values) || y) k ih
    by false k ih = ih

-- where the attributes of a type stay, so does what a test of its values says
stays_some : (u : ℕ) (g : List ℕ → Bool) (e : List AttributeModel) (r : Result (List AttributeModel) ℕ) →
    Stays u e r → Keeps (some_of u g) e r
stays_some u g e (Err code) h = tt
stays_some u g e (Ok d) h = sym (some_there u g d) ∙ ap (some_of u g) h ∙ some_there u g e

or_off : (b : Bool) → (b || false) ≡ b
or_off true = refl
or_off false = refl

some_with : (u : ℕ) (g : List ℕ → Bool) (vs : List (List ℕ)) → some_of u g (attribute_with u vs) ≡ list_any g vs
some_with u g [] = refl
some_with u g (v ∷ vs) = ap (λ (b : Bool). (b && list_any g (v ∷ vs)) || false) (eq-eqb u u refl)
    ∙ or_off (list_any g (v ∷ vs))

-- other values in the place of those of a type, to a test that says the same of them
some_put : (u : ℕ) (g : List ℕ → Bool) (vs : List (List ℕ)) (e : List AttributeModel) → list_any g vs ≡ list_any g
    (values_of u e) → some_of u g (with_values_of u vs e) ≡ some_of u g e
some_put u g vs [] h = ap (some_of u g) (append-nil (attribute_with u vs)) ∙ some_with u g vs ∙ h
some_put u g vs (x ∷ e) h = by (nat_eq x.kind u) refl h (some_put u g vs e)
  where
    i : ℕ
    i = place u e

    w : List AttributeModel
    w = attribute_with u vs

    by : (b : Bool) → nat_eq x.kind u ≡ b →
        list_any g vs ≡ list_any g (values_in (slice_get (x ∷ e) (cond (not b) (1 + i) 0))) →
        (list_any g vs ≡ list_any g (values_of u e) → some_of u g (take i e ++ w ++ drop (i + 1) e) ≡ some_of u g e) →
        some_of u g (take (cond (not b) (1 + i) 0) (x ∷ e) ++ w ++ drop (cond (not b) (1 + i) 0 + 1) (x ∷ e)) ≡
        ((nat_eq x.kind u && list_any g x.values) || some_of u g e)
    by true k h ih =
        list_any-append (λ (a : AttributeModel). nat_eq a.kind u && list_any g a.values) w e
        ∙ ap (λ (b : Bool). b || some_of u g e) (some_with u g vs ∙ h)
        ∙ ap (λ (b : Bool). (b && list_any g x.values) || some_of u g e) (sym k)
    by false k h ih =
        ap (λ (m : ℕ). some_of u g (take m (x ∷ e) ++ w ++ drop (m + 1) (x ∷ e))) (then_one i)
        ∙ ap (λ (m : ℕ). some_of u g (take (suc i) (x ∷ e) ++ w ++ drop m (x ∷ e))) (suc_one i)
        ∙ ap (λ (b : Bool). (nat_eq x.kind u && list_any g x.values) || b)
        (ih (h ∙ ap (λ (m : ℕ). list_any g (values_in (slice_get (x ∷ e) m))) (then_one i)))

-- ---- a test of keys

-- whether a key passes, where there is one
abbrev passes : (List ℕ → Bool) → Option (List ℕ) → Bool
passes f None = false
passes f (Some k) = f k

-- whether the key of a value passes
abbrev key_passes : SchemaModel → Rule → (List ℕ → Bool) → List ℕ → Bool
key_passes s r f v = passes f (key_at s r v)

-- whether the key of some value of a type passes
abbrev pub some_key : ℕ → (List ℕ → Bool) → List KeyedAttribute → Bool
some_key u f e = list_any (λ a. nat_eq a.kind u && list_any f a.keys) e

any_keys : (s : SchemaModel) (r : Rule) (f : List ℕ → Bool) (vs ks : List (List ℕ)) → map (key_at s r) vs ≡ map Some
    ks → list_any (key_passes s r f) vs ≡ list_any f ks
any_keys s r f [] [] h = refl
any_keys s r f [] (k ∷ ks) h = absurd (cc h)
any_keys s r f (v ∷ vs) [] h = absurd (cc h)
any_keys s r f (v ∷ vs) (k ∷ ks) h =
    let first : key_at s r v ≡ Some k = cc h in
    let rest : map (key_at s r) vs ≡ map Some ks = cc h in
    ap₂ (λ (a b : Bool). a || b) (ap (passes f) first) (any_keys s r f vs ks rest)

-- a key that passes is none of those that don't
unlike : (f : List ℕ → Bool) (k : List ℕ) (ks : List (List ℕ)) → f k ≡ true → list_any f ks ≡ false →
    list_any (bytes_eq k) ks ≡ false
unlike f k [] h n = refl
unlike f k (l ∷ ks) h n = by (bytes_eq k l) refl (unlike f k ks h (right_off (f l) (list_any f ks) n))
  where
    by : (b : Bool) → bytes_eq k l ≡ b → list_any (bytes_eq k) ks ≡ false → (b || list_any (bytes_eq k) ks) ≡ false
    by true e ih = let y : true ≡ false = sym h ∙ ap f ((bytes_eq-Decides k l).0 e)
        ∙ left_off (f l) (list_any f ks) n in absurd (cc y)
    by false e ih = ih

-- a value whose key passes is equivalent to none of those whose keys don't
not_held : TestsAreItems → (s : SchemaModel) (u : ℕ) (r : Rule) (f : List ℕ → Bool) (vs ks : List (List ℕ))
    (x : List ℕ) → equality_of s u ≡ Some r → map (key_at s r) vs ≡ map Some ks → list_any f ks ≡ false →
    key_passes s r f x ≡ true → holds s u vs x ≡ false
not_held law s u r f vs ks x e h n p = by (key_at s r x) refl p
  where
    by : (o : Option (List ℕ)) → key_at s r x ≡ o → passes f o ≡ true → holds s u vs x ≡ false
    by None q g = absurd (cc g)
    by (Some k) q g = sym (any_alike law s u r x k vs ks e q h) ∙ unlike f k ks g n

-- a test of values that are left, which those that went don't pass
any_left : (g p : List ℕ → Bool) → ((x : List ℕ) → g x ≡ true → p x ≡ true) → (xs : List (List ℕ)) →
    list_any g (filter p xs) ≡ list_any g xs
any_left g p h [] = refl
any_left g p h (x ∷ xs) = by (p x) refl (g x) refl (any_left g p h xs)
  where
    by : (b : Bool) → p x ≡ b → (d : Bool) → g x ≡ d → list_any g (filter p xs) ≡ list_any g xs →
        list_any g (cond b (x ∷ filter p xs) (filter p xs)) ≡ (g x || list_any g xs)
    by true e d k ih = ap (λ (b : Bool). g x || b) ih
    by false e true k ih = let y : true ≡ false = sym (h x k) ∙ e in absurd (cc y)
    by false e false k ih = ih ∙ sym (ap (λ (b : Bool). b || list_any g xs) k)

-- ---- changes

added_alike : (s : SchemaModel) (t : ℕ) (g : List ℕ → Bool) (vs : List (List ℕ)) (e : List AttributeModel) →
    list_any g vs ≡ false → Keeps (some_of t g) e (with_added s t vs e)
added_alike s t g vs e h =
    let made : Result (List AttributeModel) ℕ = Ok (with_values_of t (values_of t e ++ vs) e) in
    let free = refuse (list_any (holds s t (values_of t e)) vs) 20 made in
    let single = refuse (has_repeats s t vs) 20 free in
    let same = list_any-append g (values_of t e) vs ∙ ap (λ (b : Bool). list_any g (values_of t e) || b) h
    ∙ or_off (list_any g (values_of t e)) in
    otherwise (some_of t g) (is_empty vs) 19 e (refuse (not (are_in_syntax s t vs)) 21 single) (otherwise (some_of t g)
    (not (are_in_syntax s t vs)) 21 e single (otherwise (some_of t g) (has_repeats s t vs) 20 e free (otherwise
    (some_of t g) (list_any (holds s t (values_of t e)) vs) 20 e made (some_put t g (values_of t e ++ vs) e same))))

deleted_alike : (s : SchemaModel) (t : ℕ) (g : List ℕ → Bool) (v : List ℕ) (vs : List (List ℕ))
    (e : List AttributeModel) → ((x : List ℕ) → g x ≡ true → holds s t (v ∷ vs) x ≡ false) →
    Keeps (some_of t g) e (with_deleted s t (v ∷ vs) e)
deleted_alike s t g v vs e h =
    let left = values_left s t (v ∷ vs) (values_of t e) in
    let made : Result (List AttributeModel) ℕ = Ok (with_values_of t left e) in
    let held = not (list_all (holds s t (values_of t e)) (v ∷ vs)) in
    let same = any_left g (λ (x : List ℕ). not (holds s t (v ∷ vs) x)) (λ x k. ap not (h x k)) (values_of t e) in
    otherwise (some_of t g) (not (are_in_syntax s t (v ∷ vs))) 21 e (refuse held 16 made) (otherwise (some_of t g) held
    16 e made (some_put t g left e same))

values_alike : TestsAreItems → (s : SchemaModel) (t : ℕ) (r : Rule) (f : List ℕ → Bool) (o : ModifyOperation)
    (vs ks : List (List ℕ)) (e : List AttributeModel) → equality_of s t ≡ Some r → map (key_at s r) vs ≡ map Some ks →
    list_any f ks ≡ false → is_of_values o vs ≡ true → Keeps (some_of t (key_passes s r f)) e (with_change s o t vs e)
values_alike law s t r f Add vs ks e q h n by_values = added_alike s t (key_passes s r f) vs e (any_keys s r f vs ks h
    ∙ n)
values_alike law s t r f Delete [] ks e q h n by_values = absurd (cc by_values)
values_alike law s t r f Delete (v ∷ vs) ks e q h n by_values = deleted_alike s t (key_passes s r f) v vs e
    (λ x k. not_held law s t r f (v ∷ vs) ks x q h n k)
values_alike law s t r f Replace vs ks e q h n by_values = absurd (cc by_values)
values_alike law s t r f Increment vs ks e q h n by_values = tt

left_on : (a b : Bool) → (a && b) ≡ true → a ≡ true
left_on true b h = refl
left_on false b h = h

right_on : (a b : Bool) → (a && b) ≡ true → b ≡ true
right_on true b h = h
right_on false b h = absurd (cc h)

own_key : (b x : Bool) → b ≡ true → (b && x) ≡ false → x ≡ false
own_key true x e h = h
own_key false x e h = absurd (cc e)

-- a change by values, which are those of an attribute with keys
one_alike : TestsAreItems → (s : SchemaModel) (u t : ℕ) (r : Rule) (f : List ℕ → Bool) (c : ChangeValue)
    (a : KeyedAttribute) (e : List AttributeModel) → equality_of s u ≡ Some r → is_by_values s c t ≡ true →
    a.kind ≡ t → a.values ≡ c.modification.values → IsKeyedBy s (a ∷ []) → (nat_eq a.kind u && list_any f a.keys) ≡
    false → Keeps (some_of u (key_passes s r f)) e (with_change s c.operation t c.modification.values e)
one_alike law s u t r f c a e q asked kind values keyed none = by (nat_eq t u) refl
  where
    by : (b : Bool) → nat_eq t u ≡ b → Keeps (some_of u (key_passes s r f)) e
        (with_change s c.operation t c.modification.values e)
    by false g = stays_some u (key_passes s r f) e (with_change s c.operation t c.modification.values e)
        (change_stays s c.operation t u c.modification.values e g)
    by true g =
        let same : t ≡ u = eqb-true t u g in
        let own : a.kind ≡ u = kind ∙ same in
        let keys : map (key_at s r) c.modification.values ≡ map Some a.keys = sym (ap (map (key_at s r)) values)
        ∙ keys_by s a.kind a.values a.keys r (ap (equality_of s) own ∙ q) keyed.0 in
        subst (λ (n : ℕ). Keeps (some_of u (key_passes s r f)) e (with_change s c.operation n c.modification.values e))
        (sym same) (values_alike law s u r f c.operation c.modification.values a.keys e q keys
        (own_key (nat_eq a.kind u) (list_any f a.keys) (eq-eqb a.kind u own) none)
        (left_on (is_of_values c.operation c.modification.values) _ asked))

-- changes, of which none touches the type whole
all_alike : TestsAreItems → (s : SchemaModel) (u : ℕ) (r : Rule) (f : List ℕ → Bool) → equality_of s u ≡ Some r →
    (cs : List ChangeValue) (named : List KeyedAttribute) (e : List AttributeModel) → IsKeyedBy s named →
    attributes_of named ≡ all_values_named s cs → list_any (nat_eq u) (types_whole s cs) ≡ false →
    some_key u f named ≡ false → Keeps (some_of u (key_passes s r f)) e (all_changed s cs e)
all_alike law s u r f q [] named e keyed same off none = refl
all_alike law s u r f q (c ∷ cs) named e keyed same off none =
    by (λ n d. all_alike law s u r f q cs n d) (find s c.modification.description) same off
  where
    look : List AttributeModel → Bool
    look = some_of u (key_passes s r f)

    Next : Type 0
    Next = (n : List KeyedAttribute) (d : List AttributeModel) → IsKeyedBy s n → attributes_of n ≡ all_values_named s cs
        → list_any (nat_eq u) (types_whole s cs) ≡ false → some_key u f n ≡ false → Keeps look d (all_changed s cs d)

    made : ℕ → Result (List AttributeModel) ℕ
    made t = with_change s c.operation t c.modification.values e

    then : ℕ → Result (List AttributeModel) ℕ
    then t = and_then (refuse (is_increment c.operation) 2 (made t)) (all_changed s cs)

    others : Next → (t : ℕ) (n : List KeyedAttribute) → Keeps look e (made t) → IsKeyedBy s n → attributes_of n ≡
        all_values_named s cs → list_any (nat_eq u) (types_whole s cs) ≡ false → some_key u f n ≡ false →
        Keeps look e (then t)
    others ih t n first k so more free =
        go_on look e (refuse (is_increment c.operation) 2 (made t)) (all_changed s cs)
        (otherwise look (is_increment c.operation) 2 e (made t) first) (λ d. ih n d k so more free)

    by_value : Next → (t : ℕ) → is_by_values s c t ≡ true → (n : List KeyedAttribute) → IsKeyedBy s n →
        attributes_of n ≡ record { kind = t; values = c.modification.values } ∷ all_values_named s cs →
        list_any (nat_eq u) (types_whole s cs) ≡ false → some_key u f n ≡ false → Keeps look e (then t)
    by_value ih t asked [] k so more free = absurd (cc so)
    by_value ih t asked (a ∷ n) k so more free =
        let one : AttributeModel = record { kind = t; values = c.modification.values } in
        let head : shown a ≡ one = cc so in
        let rest : attributes_of n ≡ all_values_named s cs = cc so in
        others ih t n (one_alike law s u t r f c a e q asked (ap (λ (z : AttributeModel). z.kind) head)
        (ap (λ (z : AttributeModel). z.values) head) (k.0, tt) (left_off (nat_eq a.kind u && list_any f a.keys)
        (some_key u f n) free)) k.1 rest more (right_off (nat_eq a.kind u && list_any f a.keys) (some_key u f n) free)

    of_type_found : Next → (t : ℕ) (b : Bool) → is_by_values s c t ≡ b → attributes_of named ≡ cond b (record {
      kind = t;
      values = c.modification.values;
    } ∷ []) [] ++ all_values_named s cs → list_any (nat_eq u) (cond b [] (t ∷ []) ++ types_whole s cs) ≡ false →
        Keeps look e (then t)
    of_type_found ih t true asked so more = by_value ih t asked named keyed so more none
    of_type_found ih t false asked so more =
        others ih t named (stays_some u (key_passes s r f) e (made t) (change_stays s c.operation t u
        c.modification.values e (turned t u (left_off (nat_eq u t) (list_any (nat_eq u) (types_whole s cs)) more))))
        keyed so (right_off (nat_eq u t) (list_any (nat_eq u) (types_whole s cs)) more) none

    by : Next → (o : Option ℕ) → attributes_of named ≡ values_named s c o ++ all_values_named s cs →
        list_any (nat_eq u) (type_whole s c o ++ types_whole s cs) ≡ false → Keeps look e (and_then (refuse
        (is_increment c.operation) 2 (and_then (ok_or o 17) made)) (all_changed s cs))
    by ih None so more =
        go_on look e (refuse (is_increment c.operation) 2 (Err 17)) (all_changed s cs)
        (otherwise look (is_increment c.operation) 2 e (Err 17) tt) (λ d. ih named d keyed so more none)
    by ih (Some t) so more = of_type_found ih t (is_by_values s c t) refl so more

-- ---- entries with their keys

keys_shown : (s : SchemaModel) (u : ℕ) (r : Rule) (f : List ℕ → Bool) (e : List KeyedAttribute) → equality_of s u ≡
    Some r → IsKeyedBy s e → some_of u (key_passes s r f) (attributes_of e) ≡ some_key u f e
keys_shown s u r f [] q k = refl
keys_shown s u r f (a ∷ e) q k = ap₂ (λ (x y : Bool). x || y) (by (nat_eq a.kind u) refl) (keys_shown s u r f e q k.1)
  where
    by : (b : Bool) → nat_eq a.kind u ≡ b → (b && list_any (key_passes s r f) a.values) ≡ (b && list_any f a.keys)
    by true g = any_keys s r f a.values a.keys (keys_by s a.kind a.values a.keys r
        (ap (equality_of s) (eqb-true a.kind u g) ∙ q) k.0)
    by false g = refl

-- values of a type without a rule aren't named
none_named : (s : SchemaModel) (u : ℕ) (cs : List ChangeValue) → equality_of s u ≡ None → has_type u
    (all_values_named s cs) ≡ false
none_named s u [] q = refl
none_named s u (c ∷ cs) q = by (find s c.modification.description) (none_named s u cs q)
  where
    ruled : (t : ℕ) → is_by_values s c t ≡ true → is_some (equality_of s t) ≡ true
    ruled t h = left_on (is_some (equality_of s t)) _ (right_on (nat_lt (length c.modification.values) 65) _ (right_on
        (is_of_values c.operation c.modification.values) _ h))

    apart : (t : ℕ) → is_by_values s c t ≡ true → (b : Bool) → nat_eq t u ≡ b → b ≡ false
    apart t h false g = refl
    apart t h true g = sym (ruled t h) ∙ ap (λ (n : ℕ). is_some (equality_of s n)) (eqb-true t u g) ∙ ap is_some q

    more : (t : ℕ) (b : Bool) → is_by_values s c t ≡ b → has_type u (all_values_named s cs) ≡ false →
        has_type u (cond b (record { kind = t; values = c.modification.values } ∷ []) [] ++ all_values_named s cs) ≡
        false
    more t true h ih = ap₂ (λ (x y : Bool). x || y) (apart t h (nat_eq t u) refl) ih
    more t false h ih = ih

    by : (o : Option ℕ) → has_type u (all_values_named s cs) ≡ false → has_type u (values_named s c o ++
        all_values_named s cs) ≡ false
    by None ih = ih
    by (Some t) ih = more t (is_by_values s c t) refl ih

key_there : (u : ℕ) (f : List ℕ → Bool) (e : List KeyedAttribute) → some_key u f (filter (λ x. nat_eq x.kind u) e) ≡
    some_key u f e
key_there u f [] = refl
key_there u f (a ∷ e) = by (nat_eq a.kind u) refl (key_there u f e)
  where
    by : (b : Bool) → nat_eq a.kind u ≡ b → some_key u f (filter (λ x. nat_eq x.kind u) e) ≡ some_key u f e →
        some_key u f (cond b (a ∷ filter (λ x. nat_eq x.kind u) e) (filter (λ x. nat_eq x.kind u) e)) ≡
        ((b && list_any f a.keys) || some_key u f e)
    by true k ih = ap₂ (λ (x y : Bool). (x && list_any f a.keys) || y) k ih
    by false k ih = ih

-- Keys of a type that isn't touched whole, before and after a modify: a test that no key of a named value passes is
-- passed by keys of both or of neither.
pub keys_alike : TestsAreItems → (s : SchemaModel) (rdn : List TypeAndValue) (cs : List ChangeValue)
    (named b a : List KeyedAttribute) → IsKeyedBy s named → attributes_of named ≡ all_values_named s cs →
    IsKeyedBy s b → IsKeyedBy s a → attributes_changed s rdn cs (attributes_of b) ≡ Ok (attributes_of a) →
    (u : ℕ) (f : List ℕ → Bool) → list_any (nat_eq u) (types_touched s cs (attributes_of b)) ≡ false →
    some_key u f named ≡ false → some_key u f b ≡ some_key u f a
keys_alike law s rdn cs named b a keyed values h k changed u f other none = by (equality_of s u) refl
  where
    before : List AttributeModel
    before = attributes_of b

    whole : List ℕ
    whole = types_whole s cs

    unruled : List ℕ
    unruled = types_unruled s before

    apart : (is_object_class s u ≡ false) × (list_any (nat_eq u) (whole ++ unruled) ≡ false)
    apart = not_class s u (whole ++ unruled) other

    by : (o : Option Rule) → equality_of s u ≡ o → some_key u f b ≡ some_key u f a
    by (Some r) q =
        let look = some_of u (key_passes s r f) in
        let off = left_off (list_any (nat_eq u) whole) (list_any (nat_eq u) unruled)
        (sym (list_any-append (nat_eq u) whole unruled) ∙ apart.1) in
        let kept_so : Keeps look before (attributes_changed s rdn cs before) =
        go_on look before (all_changed s cs before) (kept s rdn before)
        (all_alike law s u r f q cs named before keyed values off none)
        (λ d. stays_some u (key_passes s r f) d (kept s rdn before d) (kept_stays s rdn before u d apart.0)) in
        let same : look (attributes_of a) ≡ look before =
        subst (λ (x : Result (List AttributeModel) ℕ). Keeps look before x) changed kept_so in
        sym (keys_shown s u r f b q h) ∙ sym same ∙ keys_shown s u r f a q k
    by None q =
        let free = sym (type_shown u named) ∙ ap (has_type u) values ∙ none_named s u cs q in
        let same = keyed_stay s rdn cs named b a values h k changed u other free in
        sym (key_there u f b) ∙ ap (some_key u f) same ∙ key_there u f a
