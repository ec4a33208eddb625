-- Attributes with an index.
use Rattle.std.proofs.Common.{◌≡◌, ◌+◌, ℕ, suc, Bool, true, false, cond, not, ◌||◌, ◌&&◌, List, [], ◌∷◌, ◌++◌, Option, Some, None, is_some, refl, sym, ap, ap₂, ◌∙◌, subst, map, length, arith, Vec, Global, Result, Ok, Err, IfOk}
use Rattle.std.specs.List.{list_any, list_all}
use Rattle.std.specs.Str.{bytes_eq}
use Rattle.std.proofs.lemmas.List.Folds.{list_any-append}
use Rattle.std.proofs.lemmas.Slice.Eq.{bytes_eq-Decides}
use Rattle.dir_entry.specs.ldap_words.declared.rule.Rule.{Rule}
use Rattle.dir_entry.specs.ldap_schema.Schema.{SchemaModel}
use Rattle.dir_entry.specs.ldap_schema.Rules.{equality_of}
use Rattle.dir_entry.specs.ldap_match.Keyed.{key_at, AreKeysBy, AreKeysOf}
use Rattle.dir_entry.specs.Entry.{KeyedAttribute}
use Rattle.dir_entry.specs.Picked.{picked}
use Rattle.dir_entry.proofs.Equivalents.{TestsAreItems}
use Rattle.dir_entry.proofs.Keyed.{keyed_join, keyed_picked}
use Rattle.entry_changes.specs.private.Compared.{compared_by, compared}
use Rattle.entry_changes.specs.Editing.{holds, values_left, is_empty}
use Rattle.entry_changes.specs.declared.index.Indexed.{Indexed}
use Rattle.entry_changes.specs.Opening.{since, marks_from, octets_by, marks_in, held_in}
use Rattle.entry_changes.specs.private.Opening.{Fits, held_of, IsIndexed}
use Rattle.entry_changes.proofs.Held.{among}
use Rattle.entry_changes.proofs.Marked.{any_marked, all_marked, marks_turned, kept_left}
use Rattle.entry_changes.proofs.Slots.{At, same_octets, picked_all, picked_more, picked_less, any_left}

of : ℕ → List (List ℕ) → List (List ℕ) → KeyedAttribute
of k vs ks = record { kind = k; values = vs; keys = ks }

-- attributes of the same type, values and keys are one
pub same_attribute : (a b : KeyedAttribute) → a.kind ≡ b.kind → a.values ≡ b.values → a.keys ≡ b.keys → a ≡ b
unfolding of
same_attribute a b k v w = made a.kind b.kind a.values b.values a.keys b.keys k v w
  where
    made : (k l : ℕ) (vs ws ks ls : List (List ℕ)) → k ≡ l → vs ≡ ws → ks ≡ ls → of k vs ks ≡ of l ws ls
    made k l vs ws ks ls e f g = rw (e, f, g) refl

-- what the held values are compared by
pub octets_held : (by : Bool) (f : At) (a : KeyedAttribute) → octets_by by (held_in by f a) ≡
    picked (marks_from f 0 (octets_by by a)) (octets_by by a)
octets_held true f a = refl
octets_held false f a = refl

no_more : (b : Bool) (n : ℕ) → is_some (cond b (Some n) None) ≡ b
no_more true n = refl
no_more false n = refl

-- an index that is made of the values
pub new_index : (by : Bool) (a : KeyedAttribute) (x : Indexed) → length (octets_by by a) ≡ length a.values →
    x.attribute ≡ a → x.index.by_keys ≡ by
    → ((q : List ℕ) → since x.index.held.entries q ≡ cond (list_any (bytes_eq q) (octets_by by a)) (Some 0) None) →
    IsIndexed by a x
new_index by a x long same by_is has =
    let f : At = since x.index.held.entries in
    let first : (q : List ℕ) → list_any (bytes_eq q) (octets_by by a) ≡ true → f q ≡ Some 0 = λ q h. has q
    ∙ ap (λ (b : Bool). cond b (Some 0) None) h in
    let values : (held_in by f a).values ≡ a.values = picked_all f 0 0 (octets_by by a) a.values (omega arith) long
    first in
    let octets : octets_by by (held_in by f a) ≡ octets_by by a = octets_held by f a
    ∙ picked_all f 0 0 (octets_by by a) (octets_by by a) (omega arith) refl first in
    record {
      kind = ap (λ (b : KeyedAttribute). b.kind) same;
      values = ap₂ (λ (c : Bool) (b : KeyedAttribute). (held_in c f b).values) by_is same ∙ values;
      octets = ap₂ (λ (c : Bool) (b : KeyedAttribute). octets_by by (held_in c f b)) by_is same ∙ octets;
      by_keys = by_is;
      fits = record {
        long = ap₂ (λ (c : Bool) (b : KeyedAttribute). length (octets_by c b)) by_is same ∙ long
            ∙ ap (λ (b : KeyedAttribute). length b.values) (sym same);
        has = λ q. ap is_some (has q) ∙ no_more (list_any (bytes_eq q) (octets_by by a)) 0
            ∙ ap (list_any (bytes_eq q)) (sym octets)
            ∙ ap₂ (λ (c : Bool) (b : KeyedAttribute). list_any (bytes_eq q) (octets_by c (held_in c f b))) (sym by_is)
            (sym same);
      };
    }

pub map_length : {A B : Type 0} (f : A → B) (xs : List A) → length (map f xs) ≡ length xs
map_length f [] = refl
map_length f (x ∷ xs) = ap suc (map_length f xs)

-- a value for each of the octets that it is compared by
pub long_by : (s : SchemaModel) (o : Option Rule) (a : KeyedAttribute) → AreKeysBy s o a.values a.keys →
    length (octets_by (is_some o) a) ≡ length a.values
long_by s None a h = refl
long_by s (Some r) a h = sym (map_length Some a.keys) ∙ ap length (sym h) ∙ map_length (key_at s r) a.values

pub compared_as : (o : Option Rule) (a : KeyedAttribute) → octets_by (is_some o) a ≡ compared_by o a
compared_as None a = refl
compared_as (Some r) a = refl

any_same : {A : Type 0} (p q : A → Bool) → ((x : A) → p x ≡ q x) → (xs : List A) → list_any p xs ≡ list_any q xs
any_same p q h [] = refl
any_same p q h (x ∷ xs) = ap₂ (λ (a b : Bool). a || b) (h x) (any_same p q h xs)

all_same : {A : Type 0} (p q : A → Bool) → ((x : A) → p x ≡ q x) → (xs : List A) → list_all p xs ≡ list_all q xs
all_same p q h [] = refl
all_same p q h (x ∷ xs) = ap₂ (λ (a b : Bool). a && b) (h x) (all_same p q h xs)

-- whether the index has some octets
has_octets : (by : Bool) (a : KeyedAttribute) (x : Indexed) → IsIndexed by a x → (q : List ℕ) →
    is_some (since x.index.held.entries q) ≡ list_any (bytes_eq q) (octets_by by a)
has_octets by a x h q =
    h.fits.has q ∙ ap (λ (c : Bool). list_any (bytes_eq q) (octets_by c (held_of x))) h.by_keys
    ∙ ap (list_any (bytes_eq q)) h.octets

-- of values whether equivalent ones are held
pub marks_held : TestsAreItems → (s : SchemaModel) (held given : KeyedAttribute) → held.kind ≡ given.kind →
    AreKeysOf s held.kind held.values held.keys → AreKeysOf s given.kind given.values given.keys
    → map (λ q. list_any (bytes_eq q) (octets_by (is_some (equality_of s held.kind)) held))
    (octets_by (is_some (equality_of s held.kind)) given) ≡ map (holds s given.kind held.values) given.values
marks_held law s held given e h k =
    ap₂ (λ (os xs : List (List ℕ)). map (λ q. list_any (bytes_eq q) os) xs) (compared_as (equality_of s held.kind)
    held) (compared_as (equality_of s held.kind) given)
    ∙ ap (λ (t : ℕ). map (λ q. list_any (bytes_eq q) (compared s held)) (compared_by (equality_of s t) given)) e
    ∙ among law s given held (sym e) k h

pub some_held : TestsAreItems → (s : SchemaModel) (held given : KeyedAttribute) (x : Indexed) →
    held.kind ≡ given.kind → AreKeysOf s held.kind held.values held.keys → AreKeysOf s given.kind given.values
    given.keys
    → IsIndexed (is_some (equality_of s held.kind)) held x → list_any (λ q. is_some (since x.index.held.entries q))
    (octets_by x.index.by_keys given) ≡ list_any (holds s given.kind held.values) given.values
some_held law s held given x e h k i =
    let by : Bool = is_some (equality_of s held.kind) in
    let has : List ℕ → Bool = λ q. list_any (bytes_eq q) (octets_by by held) in
    ap (λ (c : Bool). list_any (λ q. is_some (since x.index.held.entries q)) (octets_by c given)) i.by_keys
    ∙ any_same (λ q. is_some (since x.index.held.entries q)) has (has_octets by held x i) (octets_by by given)
    ∙ sym (any_marked has (octets_by by given))
    ∙ ap (list_any (λ m. m)) (marks_held law s held given e h k)
    ∙ any_marked (holds s given.kind held.values) given.values

pub all_held : TestsAreItems → (s : SchemaModel) (held given : KeyedAttribute) (x : Indexed) →
    held.kind ≡ given.kind → AreKeysOf s held.kind held.values held.keys → AreKeysOf s given.kind given.values
    given.keys
    → IsIndexed (is_some (equality_of s held.kind)) held x → list_all (λ q. is_some (since x.index.held.entries q))
    (octets_by x.index.by_keys given) ≡ list_all (holds s held.kind held.values) given.values
all_held law s held given x e h k i =
    let by : Bool = is_some (equality_of s held.kind) in
    let has : List ℕ → Bool = λ q. list_any (bytes_eq q) (octets_by by held) in
    ap (λ (c : Bool). list_all (λ q. is_some (since x.index.held.entries q)) (octets_by c given)) i.by_keys
    ∙ all_same (λ q. is_some (since x.index.held.entries q)) has (has_octets by held x i) (octets_by by given)
    ∙ sym (all_marked has (octets_by by given))
    ∙ ap (list_all (λ m. m)) (marks_held law s held given e h k)
    ∙ all_marked (holds s given.kind held.values) given.values
    ∙ ap (λ (t : ℕ). list_all (holds s t held.values) given.values) (sym e)

none_some : (o : Option ℕ) → is_some o ≡ false → o ≡ None
none_some None h = refl
none_some (Some x) h = absurd (cc)

neither : (a b : Bool) → (a || b) ≡ false → (a ≡ false) × (b ≡ false)
neither true b h = absurd (cc)
neither false b h = (refl, h)

not_at : (f : At) (q x : List ℕ) (rest c : Bool) → bytes_eq q x ≡ c → (c || rest) ≡ true → is_some (f x) ≡ false →
    (rest ≡ true → f q ≡ None) → f q ≡ None
not_at f q x rest true e w u v = ap f ((bytes_eq-Decides q x).0 e) ∙ none_some (f x) u
not_at f q x rest false e w u v = v w

-- octets of which none is held
not_there : (f : At) (xs : List (List ℕ)) → list_any (λ x. is_some (f x)) xs ≡ false → (q : List ℕ) →
    list_any (bytes_eq q) xs ≡ true → f q ≡ None
not_there f [] h q k = absurd (cc)
not_there f (x ∷ xs) h q k =
    let p = neither (is_some (f x)) (list_any (λ y. is_some (f y)) xs) h in
    not_at f q x (list_any (bytes_eq q) xs) (bytes_eq q x) refl k p.0 (not_there f xs p.1 q)

-- values after those that are held
pub more_values : (by : Bool) (f g : At) (a b given : KeyedAttribute) (n : ℕ) → Fits by f a →
    length (octets_by by given) ≡ length given.values → n ≡ length a.values
    → ((q : List ℕ) → g q ≡ cond (list_any (bytes_eq q) (octets_by by given)) (Some n) (f q)) →
    list_any (λ x. is_some (f x)) (octets_by by given) ≡ false
    → b.values ≡ a.values ++ given.values → b.keys ≡ a.keys ++ given.keys
    → ((held_in by g b).values ≡ (held_in by f a).values ++ given.values)
    × (octets_by by (held_in by g b) ≡ octets_by by (held_in by f a) ++ octets_by by given)
more_values by f g a b given n fits long is step fresh vs ks =
    let os : octets_by by b ≡ octets_by by a ++ octets_by by given = joined_octets by vs ks in (
      ap₂ (λ (xs ws : List (List ℕ)). picked (marks_from g 0 xs) ws) os vs
          ∙ picked_more f g (λ q. list_any (bytes_eq q) (octets_by by given)) n (octets_by by a) (octets_by by given)
          a.values given.values fits.long long (is ∙ sym fits.long) step (λ q. not_there f (octets_by by given)
          fresh q) (λ q h. h),
      octets_held by g b
          ∙ ap (λ (xs : List (List ℕ)). picked (marks_from g 0 xs) xs) os
          ∙ picked_more f g (λ q. list_any (bytes_eq q) (octets_by by given)) n (octets_by by a) (octets_by by given)
          (octets_by by a) (octets_by by given) refl refl (is ∙ sym fits.long) step
          (λ q. not_there f (octets_by by given) fresh q) (λ q h. h)
          ∙ ap (λ (xs : List (List ℕ)). xs ++ octets_by by given) (sym (octets_held by f a)),
    )
  where
    joined_octets : (by : Bool) → b.values ≡ a.values ++ given.values → b.keys ≡ a.keys ++ given.keys →
        octets_by by b ≡ octets_by by a ++ octets_by by given
    joined_octets true v k = k
    joined_octets false v k = v

-- the index after they are put
pub fits_more : (by : Bool) (f g : At) (a b given : KeyedAttribute) (n : ℕ) → Fits by f a →
    length (octets_by by given) ≡ length given.values → n ≡ length a.values
    → ((q : List ℕ) → g q ≡ cond (list_any (bytes_eq q) (octets_by by given)) (Some n) (f q)) →
    list_any (λ x. is_some (f x)) (octets_by by given) ≡ false
    → b.values ≡ a.values ++ given.values → b.keys ≡ a.keys ++ given.keys → Fits by g b
fits_more by f g a b given n fits long is step fresh vs ks = record {
  long = longer by vs ks fits.long long;
  has = λ q.
      ap is_some (step q) ∙ some_or (list_any (bytes_eq q) (octets_by by given)) (f q)
      ∙ ap (λ (c : Bool). c || list_any (bytes_eq q) (octets_by by given)) (fits.has q)
      ∙ sym (list_any-append (bytes_eq q) (octets_by by (held_in by f a)) (octets_by by given))
      ∙ ap (list_any (bytes_eq q)) (sym (more_values by f g a b given n fits long is step fresh vs ks).1);
}
  where
    length_both : {A : Type 0} (xs ys : List A) → length (xs ++ ys) ≡ length xs + length ys
    length_both [] ys = omega arith
    length_both (x ∷ xs) ys = let more : length (xs ++ ys) ≡ length xs + length ys = length_both xs ys in omega arith

    longer : (by : Bool) → b.values ≡ a.values ++ given.values → b.keys ≡ a.keys ++ given.keys →
        length (octets_by by a) ≡ length a.values → length (octets_by by given) ≡ length given.values →
        length (octets_by by b) ≡ length b.values
    longer false v k h w = refl
    longer true v k h w = ap length k ∙ length_both a.keys given.keys ∙ ap₂ (λ (m n : ℕ). m + n) h w
        ∙ sym (length_both a.values given.values) ∙ ap length (sym v)

    some_or : (c : Bool) (o : Option ℕ) → is_some (cond c (Some n) o) ≡ (is_some o || c)
    some_or true None = refl
    some_or true (Some x) = refl
    some_or false None = refl
    some_or false (Some x) = refl

-- values that are held no more
pub less_values : (by : Bool) (f g : At) (a : KeyedAttribute) (given : List (List ℕ)) → Fits by f a →
    ((q : List ℕ) → g q ≡ cond (list_any (bytes_eq q) given) None (f q))
    → ((held_in by g a).values ≡ picked (map (λ x. not (list_any (bytes_eq x) given)) (octets_by by (held_in by f a)))
    (held_in by f a).values)
    × (octets_by by (held_in by g a) ≡ picked (map (λ x. not (list_any (bytes_eq x) given))
    (octets_by by (held_in by f a))) (octets_by by (held_in by f a)))
less_values by f g a given fits step =
    let p : List ℕ → Bool = λ x. list_any (bytes_eq x) given in (
      picked_less f g p 0 (octets_by by a) a.values fits.long step
          ∙ ap (λ (xs : List (List ℕ)). picked (map (λ x. not (p x)) xs) (held_in by f a).values)
          (sym (octets_held by f a)),
      octets_held by g a
          ∙ picked_less f g p 0 (octets_by by a) (octets_by by a) refl step
          ∙ ap (λ (xs : List (List ℕ)). picked (map (λ x. not (p x)) xs) xs) (sym (octets_held by f a)),
    )

pub fits_less : (by : Bool) (f g : At) (a : KeyedAttribute) (given : List (List ℕ)) → Fits by f a →
    ((q : List ℕ) → g q ≡ cond (list_any (bytes_eq q) given) None (f q)) → Fits by g a
fits_less by f g a given fits step = record {
  long = fits.long;
  has = λ q.
      ap is_some (step q) ∙ some_left (list_any (bytes_eq q) given) (f q)
      ∙ ap (λ (c : Bool). cond (list_any (bytes_eq q) given) false c) (fits.has q)
      ∙ sym (any_left (λ x. list_any (bytes_eq x) given) q (octets_by by (held_in by f a)))
      ∙ ap (list_any (bytes_eq q)) (sym (less_values by f g a given fits step).1);
}
  where
    some_left : (c : Bool) (o : Option ℕ) → is_some (cond c None o) ≡ cond c false (is_some o)
    some_left true o = refl
    some_left false o = refl

-- keys of values, by what the values are compared by
keyed_by : (s : SchemaModel) (o : Option Rule) (vs ks : List (List ℕ)) (a : KeyedAttribute) → a.values ≡ vs →
    (is_some o ≡ true → a.keys ≡ ks) → AreKeysBy s o vs ks → AreKeysBy s o a.values a.keys
keyed_by s None vs ks a v k h = tt
keyed_by s (Some r) vs ks a v k h = ap (map (key_at s r)) v ∙ h ∙ ap (map Some) (sym (k refl))

pub keyed_again : (s : SchemaModel) (t : ℕ) (vs ks : List (List ℕ)) (a : KeyedAttribute) → a.kind ≡ t →
    a.values ≡ vs → (is_some (equality_of s t) ≡ true → a.keys ≡ ks) → AreKeysOf s t vs ks →
    AreKeysOf s a.kind a.values a.keys
keyed_again s t vs ks a e v k h = subst (λ (u : ℕ). AreKeysOf s u a.values a.keys) (sym e)
    (keyed_by s (equality_of s t) vs ks a v k h)

-- the keys are the octets, where values are compared by them
pub by_true : (by : Bool) (a : KeyedAttribute) → by ≡ true → octets_by by a ≡ a.keys
by_true by a h = ap (λ (c : Bool). octets_by c a) h

picked_length : {A B : Type 0} (ms : List Bool) (xs : List A) (ys : List B) → length xs ≡ length ys →
    length (picked ms xs) ≡ length (picked ms ys)
picked_length ms [] [] h = refl
picked_length ms [] (y ∷ ys) h = absurd (cc)
picked_length ms (x ∷ xs) [] h = absurd (cc)
picked_length [] (x ∷ xs) (y ∷ ys) h = refl
picked_length (true ∷ ms) (x ∷ xs) (y ∷ ys) h = ap suc (picked_length ms xs ys (cc))
picked_length (false ∷ ms) (x ∷ xs) (y ∷ ys) h = picked_length ms xs ys (cc)

both_empty : (xs ys : List (List ℕ)) → length xs ≡ length ys → is_empty xs ≡ is_empty ys
both_empty [] [] h = refl
both_empty [] (y ∷ ys) h = absurd (cc)
both_empty (x ∷ xs) [] h = absurd (cc)
both_empty (x ∷ xs) (y ∷ ys) h = refl

-- a map of no octets and no octets that are held come together
map_empty : (es : List (Vec ℕ Global × ℕ)) (os : List (List ℕ)) (r : Bool) → (r ≡ true → length es ≡ 0) →
    (length es ≡ 0 → r ≡ true) → ((q : List ℕ) → is_some (since es q) ≡ list_any (bytes_eq q) os) → r ≡ is_empty os
map_empty [] [] r f g has = g refl
map_empty [] (x ∷ xs) r f g has =
    let here : list_any (bytes_eq x) (x ∷ xs) ≡ true = ap (λ (b : Bool). b || list_any (bytes_eq x) xs)
    (same_octets x) in
    let none : false ≡ list_any (bytes_eq x) (x ∷ xs) = has x in
    absurd (cc)
map_empty (e ∷ es) [] r f g has =
    let here : is_some (since (e ∷ es) e.0.items) ≡ true =
    ap (λ (b : Bool). is_some (cond b (Some e.1) (since es e.0.items))) (same_octets e.0.items) in
    let none : is_some (since (e ∷ es) e.0.items) ≡ false = has e.0.items in
    absurd (cc)
map_empty (e ∷ es) (x ∷ xs) true f g has = let none : length (e ∷ es) ≡ 0 = f refl in absurd (omega arith)
map_empty (e ∷ es) (x ∷ xs) false f g has = refl

-- an index of no octets is that of no values
pub none_left : (by : Bool) (a : KeyedAttribute) (es : List (Vec ℕ Global × ℕ)) (r : Bool) →
    (r ≡ true → length es ≡ 0) → (length es ≡ 0 → r ≡ true) → Fits by (since es) a →
    r ≡ is_empty (held_in by (since es) a).values
none_left by a es r f g fits =
    map_empty es (octets_by by (held_in by (since es) a)) r f g fits.has
    ∙ ap is_empty (octets_held by (since es) a)
    ∙ both_empty (picked (marks_in by (since es) a) (octets_by by a)) (picked (marks_in by (since es) a) a.values)
    (picked_length (marks_in by (since es) a) (octets_by by a) a.values fits.long)

-- three clauses of one result
pub three_ok : {A E : Type 0} (P Q R S : A → Type 0) (r : Result A E) → IfOk r P → IfOk r Q → IfOk r R →
    ((x : A) → P x → Q x → R x → S x) → IfOk r S
three_ok P Q R S (Ok x) p q t f = f x p q t
three_ok P Q R S (Err e) p q t f = tt

-- the given values have octets of their own
pub long_given : (s : SchemaModel) (held given : KeyedAttribute) (x : Indexed) → held.kind ≡ given.kind →
    AreKeysOf s given.kind given.values given.keys → IsIndexed (is_some (equality_of s held.kind)) held x
    → length (octets_by x.index.by_keys given) ≡ length given.values
long_given s held given x e k i =
    ap (λ (b : Bool). length (octets_by b given)) i.by_keys
    ∙ ap (λ (t : ℕ). length (octets_by (is_some (equality_of s t)) given)) e
    ∙ long_by s (equality_of s given.kind) given k

-- the keys of values after those that are held
pub joined_keyed : (s : SchemaModel) (held given a : KeyedAttribute) (x : Indexed) → held.kind ≡ given.kind →
    AreKeysOf s held.kind held.values held.keys → AreKeysOf s given.kind given.values given.keys
    → IsIndexed (is_some (equality_of s held.kind)) held x → a.kind ≡ x.attribute.kind →
    a.values ≡ (held_of x).values ++ given.values
    → octets_by x.index.by_keys a ≡ octets_by x.index.by_keys (held_of x) ++ octets_by x.index.by_keys given →
    AreKeysOf s a.kind a.values a.keys
joined_keyed s held given a x e h k i is_kind vs os =
    let by : Bool = is_some (equality_of s held.kind) in
    keyed_again s held.kind (held.values ++ given.values) (held.keys ++ given.keys) a (is_kind ∙ i.kind)
    (vs ∙ ap (λ (l : List (List ℕ)). l ++ given.values) i.values)
    (λ w. sym (by_true x.index.by_keys a (i.by_keys ∙ w)) ∙ os
    ∙ ap₂ (λ (l m : List (List ℕ)). l ++ m) (by_true x.index.by_keys (held_of x) (i.by_keys ∙ w)
    ∙ sym (by_true by (held_of x) w) ∙ i.octets ∙ by_true by held w) (by_true x.index.by_keys given (i.by_keys
    ∙ w)))
    (keyed_join s held.kind held.values held.keys given.values given.keys h
    (subst (λ (t : ℕ). AreKeysOf s t given.values given.keys) (sym e) k))

-- what is left, by what the schema compares
less_by : (by : Bool) (held given : KeyedAttribute) (x : Indexed) (of_values : Bool → KeyedAttribute →
    List (List ℕ)) → IsIndexed by held x → of_values by (held_of x) ≡ of_values by held
    → picked (map (λ y. not (list_any (bytes_eq y) (octets_by x.index.by_keys given)))
    (octets_by x.index.by_keys (held_of x))) (of_values x.index.by_keys (held_of x))
    ≡ picked (map (λ y. not (list_any (bytes_eq y) (octets_by by given))) (octets_by by held)) (of_values by held)
less_by by held given x of_values i same =
    ap (λ (b : Bool). picked (map (λ y. not (list_any (bytes_eq y) (octets_by b given))) (octets_by b (held_of x)))
    (of_values b (held_of x))) i.by_keys
    ∙ ap₂ (λ (os vs : List (List ℕ)). picked (map (λ y. not (list_any (bytes_eq y) (octets_by by given))) os) vs)
    i.octets same

pub left_values : TestsAreItems → (s : SchemaModel) (held given : KeyedAttribute) (x : Indexed) (vs : List (List ℕ)) →
    held.kind ≡ given.kind → AreKeysOf s held.kind held.values held.keys → AreKeysOf s given.kind given.values
    given.keys
    → IsIndexed (is_some (equality_of s held.kind)) held x
    → vs ≡ picked (map (λ y. not (list_any (bytes_eq y) (octets_by x.index.by_keys given)))
    (octets_by x.index.by_keys (held_of x))) (held_of x).values
    → vs ≡ values_left s held.kind given.values held.values
left_values law s held given x vs e h k i w =
    let by : Bool = is_some (equality_of s held.kind) in
    let has : List ℕ → Bool = λ y. list_any (bytes_eq y) (octets_by by given) in
    kept_left (holds s held.kind given.values) held.values vs (map (λ y. not (has y)) (octets_by by held))
    (map has (octets_by by held))
    (w ∙ less_by by held given x (λ b a. a.values) i i.values)
    (sym (marks_turned has (octets_by by held)))
    (ap (λ (t : ℕ). map (λ y. list_any (bytes_eq y) (octets_by (is_some (equality_of s t)) given))
    (octets_by (is_some (equality_of s t)) held)) e ∙ marks_held law s given held (sym e) k h)

-- the keys of what is left
pub left_keyed : (s : SchemaModel) (held given a : KeyedAttribute) (x : Indexed) → AreKeysOf s held.kind held.values
    held.keys → IsIndexed (is_some (equality_of s held.kind)) held x → a.kind ≡ x.attribute.kind
    → a.values ≡ picked (map (λ y. not (list_any (bytes_eq y) (octets_by x.index.by_keys given)))
    (octets_by x.index.by_keys (held_of x))) (held_of x).values
    → octets_by x.index.by_keys a ≡ picked (map (λ y. not (list_any (bytes_eq y) (octets_by x.index.by_keys given)))
    (octets_by x.index.by_keys (held_of x))) (octets_by x.index.by_keys (held_of x))
    → AreKeysOf s a.kind a.values a.keys
left_keyed s held given a x h i is_kind vs os =
    let by : Bool = is_some (equality_of s held.kind) in
    let ms : List Bool = map (λ y. not (list_any (bytes_eq y) (octets_by by given))) (octets_by by held) in
    keyed_again s held.kind (picked ms held.values) (picked ms held.keys) a (is_kind ∙ i.kind)
    (vs ∙ less_by by held given x (λ b c. c.values) i i.values)
    (λ w. sym (by_true x.index.by_keys a (i.by_keys ∙ w)) ∙ os ∙ less_by by held given x octets_by i i.octets
    ∙ ap (picked ms) (by_true by held w))
    (keyed_picked s held.kind ms held.values held.keys h)
