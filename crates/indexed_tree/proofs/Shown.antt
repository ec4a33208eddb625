-- What the tree keeps, seen without keys: each word of the directory on what is shown is the tree's word.
use Rattle.std.proofs.Common.{◌≡◌, ℕ, zero, suc, List, [], ◌∷◌, ◌++◌, map, length, take, refl, sym, ap, ap₂, ◌∙◌, Bool, true, false, cond, ◌||◌, Ok, Err, Option, None, Some, nat_eq, is_some}
use Rattle.std.specs.Option.{option_map}
use Rattle.dir_index.specs.ldap_schema.Schema.{SchemaModel}
use Rattle.dir_index.specs.ldap_dn.Names.{RdnModel, rdns}
use Rattle.dir_index.specs.dir_entry.Entry.{AttributeModel, KeyedAttribute, attributes_of, IsKeyedBy}
use Rattle.directory_api.specs.dir_tree.Directory as tree
use Rattle.directory_api.specs.dir_tree.Directory.{NameKey, Entered, TreeModel, name_eq, find, AllBelow}
use Rattle.indexed_tree.proofs.Lookups.{rdns_take}
use Rattle.indexed_tree.specs.Replies.{not_found, or_refused, entry_asked}
use Rattle.indexed_tree.specs.Directory.{NamedEntry}
use Rattle.indexed_tree.specs.Places.{entry_named, has_subordinate, front_from, nearest, without_entry, with_attributes, name_after, moved}
use Rattle.indexed_tree.specs.Stored.{named, directory, AreKeyedBy, NumbersBelow}

pub entry_shown : (q : NameKey) (d : List Entered) → entry_named q (map named d) ≡ option_map named (find q d)
entry_shown q [] = refl
entry_shown q (e ∷ es) = by (name_eq q (rdns e.name)) (entry_shown q es)
  where
    by : (b : Bool) → entry_named q (map named es) ≡ option_map named (find q es) →
        cond b (Some (named e)) (entry_named q (map named es)) ≡ option_map named (cond b (Some e) (find q es))
    by true ih = refl
    by false ih = ih

pub found_shown : (q : NameKey) (d : List Entered) (x : Entered) → find q d ≡ Some x → entry_named q (map named d) ≡
    Some (named x)
found_shown q d x h = entry_shown q d ∙ ap (λ (o : Option Entered). option_map named o) h

pub none_shown : (q : NameKey) (d : List Entered) → find q d ≡ None → entry_named q (map named d) ≡ None
none_shown q d h = entry_shown q d ∙ ap (λ (o : Option Entered). option_map named o) h

-- the number and the attributes of a name's entry
pub number_shown : (q : NameKey) (d : List Entered) → option_map (λ (e : NamedEntry). e.number)
    (entry_named q (map named d)) ≡ option_map (λ (e : Entered). e.number) (find q d)
number_shown q d = ap (λ (o : Option NamedEntry). option_map (λ (e : NamedEntry). e.number) o) (entry_shown q d)
    ∙ by (find q d)
  where
    by : (o : Option Entered) → option_map (λ (e : NamedEntry). e.number) (option_map named o) ≡
        option_map (λ (e : Entered). e.number) o
    by None = refl
    by (Some e) = refl

pub attributes_at : (q : NameKey) (d : List Entered) (a : List KeyedAttribute) →
    Some a ≡ option_map (λ (e : Entered). e.entry) (find q d) → Some (attributes_of a) ≡
    option_map (λ (e : NamedEntry). e.attributes) (entry_named q (map named d))
attributes_at q d a h = by (find q d) h ∙ ap (λ (o : Option NamedEntry). option_map (λ (e : NamedEntry). e.attributes)
    o) (sym (entry_shown q d))
  where
    by : (o : Option Entered) → Some a ≡ option_map (λ (e : Entered). e.entry) o → Some (attributes_of a) ≡
        option_map (λ (e : NamedEntry). e.attributes) (option_map named o)
    by None g = absurd (cc g)
    by (Some e) g = let same : a ≡ e.entry = cc g in ap (λ (x : List KeyedAttribute). Some (attributes_of x)) same

pub none_at : {A B : Type 0} (f : NamedEntry → A) (g : Entered → B) (q : NameKey) (d : List Entered) →
    ◌≡◌ {A = Option B} None (option_map g (find q d)) → None ≡ option_map f (entry_named q (map named d))
none_at {A} {B} f g q d h = by (find q d) h ∙ ap (λ (o : Option NamedEntry). option_map f o) (sym (entry_shown q d))
  where
    by : (o : Option Entered) → ◌≡◌ {A = Option B} None (option_map g o) →
        ◌≡◌ {A = Option A} None (option_map f (option_map named o))
    by None e = refl
    by (Some x) e = absurd (cc e)

there : (o : Option Entered) → is_some (option_map named o) ≡ is_some o
there None = refl
there (Some e) = refl

pub is_there_shown : (q : NameKey) (d : List Entered) → is_some (entry_named q (map named d)) ≡ is_some (find q d)
is_there_shown q d = ap is_some (entry_shown q d) ∙ there (find q d)

pub front_shown : (i : ℕ) (q : NameKey) (d : List Entered) → front_from i q (map named d) ≡ tree.front_from i q d
front_shown zero q d = refl
front_shown (suc i) q d = ap₂ (λ (b : Bool) (k : ℕ). cond b (suc i) k) (is_there_shown (take (suc i) q) d)
    (front_shown i q d)

pub nearest_shown : (q : NameKey) (d : List Entered) → nearest q (map named d) ≡ option_map named
    (find (take (tree.front q d) q) d)
nearest_shown q d = ap (λ (k : ℕ). entry_named (take k q) (map named d)) (front_shown (length q) q d)
    ∙ entry_shown (take (tree.front q d) q) d

pub below_shown : (q : NameKey) (d : List Entered) → has_subordinate q (map named d) ≡ tree.has_below q d
below_shown q [] = refl
below_shown q (e ∷ es) = ap (λ (b : Bool). tree.is_below q e || b) (below_shown q es)

pub numbers_shown : (k : ℕ) (d : List Entered) → NumbersBelow k (map named d) → AllBelow k d
numbers_shown k [] h = tt
numbers_shown k (e ∷ es) h = (h.0, numbers_shown k es h.1)

pub pushed_shown : (d : List Entered) (e : Entered) → map named (d ++ e ∷ []) ≡ map named d ++ named e ∷ []
pushed_shown [] e = refl
pushed_shown (x ∷ d) e = ap (λ (l : List NamedEntry). named x ∷ l) (pushed_shown d e)

pub deleted_shown : (k : ℕ) (d : List Entered) → map named (tree.unnumbered k d) ≡ without_entry k (map named d)
deleted_shown k [] = refl
deleted_shown k (e ∷ es) = by (nat_eq k e.number) (deleted_shown k es)
  where
    by : (b : Bool) → map named (tree.unnumbered k es) ≡ without_entry k (map named es) →
        map named (cond b es (e ∷ tree.unnumbered k es)) ≡ cond b (map named es)
        (named e ∷ without_entry k (map named es))
    by true ih = refl
    by false ih = ap (λ (l : List NamedEntry). named e ∷ l) ih

pub replaced_shown : (k : ℕ) (a : List KeyedAttribute) (d : List Entered) → map named (tree.replaced k a d) ≡
    with_attributes k (attributes_of a) (map named d)
replaced_shown k a [] = refl
replaced_shown k a (e ∷ es) = by (nat_eq k e.number) (replaced_shown k a es)
  where
    other : Entered
    other = record { number = e.number; name = e.name; entry = a }

    by : (b : Bool) → map named (tree.replaced k a es) ≡ with_attributes k (attributes_of a) (map named es)
        → map named (cond b (other ∷ es) (e ∷ tree.replaced k a es)) ≡ cond b (named other ∷ map named es)
        (named e ∷ with_attributes k (attributes_of a) (map named es))
    by true ih = refl
    by false ih = ap (λ (l : List NamedEntry). named e ∷ l) ih

attributes_shown : (b : Bool) (x y : List KeyedAttribute) → attributes_of (cond b x y) ≡ cond b (attributes_of x)
    (attributes_of y)
attributes_shown true x y = refl
attributes_shown false x y = refl

pub moved_shown : (old : NameKey) (new : List RdnModel) (a : List KeyedAttribute) (d : List Entered) →
    map named (tree.moved old new a d) ≡ moved old new (attributes_of a) (map named d)
moved_shown old new a [] = refl
moved_shown old new a (e ∷ es) =
    ap₂ (λ (attributes : List AttributeModel) (l : List NamedEntry). let x : NamedEntry =
    record { number = e.number; name = name_after old new e.name; attributes = attributes } in x ∷ l)
    (attributes_shown (name_eq old (rdns e.name)) a e.entry) (moved_shown old new a es)

-- keys stay those of the values
pub keyed_push : (s : SchemaModel) (d : List Entered) (e : Entered) → AreKeyedBy s d → IsKeyedBy s e.entry →
    AreKeyedBy s (d ++ e ∷ [])
keyed_push s [] e k h = (h, tt)
keyed_push s (x ∷ d) e k h = (k.0, keyed_push s d e k.1 h)

pub keyed_unnumbered : (s : SchemaModel) (n : ℕ) (d : List Entered) → AreKeyedBy s d →
    AreKeyedBy s (tree.unnumbered n d)
keyed_unnumbered s n [] k = tt
keyed_unnumbered s n (e ∷ es) k = by (nat_eq n e.number) (keyed_unnumbered s n es k.1)
  where
    by : (b : Bool) → AreKeyedBy s (tree.unnumbered n es) → AreKeyedBy s (cond b es (e ∷ tree.unnumbered n es))
    by true ih = k.1
    by false ih = (k.0, ih)

pub keyed_replaced : (s : SchemaModel) (n : ℕ) (a : List KeyedAttribute) (d : List Entered) → AreKeyedBy s d →
    IsKeyedBy s a → AreKeyedBy s (tree.replaced n a d)
keyed_replaced s n a [] k h = tt
keyed_replaced s n a (e ∷ es) k h = by (nat_eq n e.number) (keyed_replaced s n a es k.1 h)
  where
    other : Entered
    other = record { number = e.number; name = e.name; entry = a }

    by : (b : Bool) → AreKeyedBy s (tree.replaced n a es) →
        AreKeyedBy s (cond b (other ∷ es) (e ∷ tree.replaced n a es))
    by true ih = (h, k.1)
    by false ih = (k.0, ih)

keyed_choice : (s : SchemaModel) (b : Bool) (x y : List KeyedAttribute) → IsKeyedBy s x → IsKeyedBy s y →
    IsKeyedBy s (cond b x y)
keyed_choice s true x y h k = h
keyed_choice s false x y h k = k

pub keyed_moved : (s : SchemaModel) (old : NameKey) (new : List RdnModel) (a : List KeyedAttribute)
    (d : List Entered) → AreKeyedBy s d → IsKeyedBy s a → AreKeyedBy s (tree.moved old new a d)
keyed_moved s old new a [] k h = tt
keyed_moved s old new a (e ∷ es) k h =
    (keyed_choice s (name_eq old (rdns e.name)) a e.entry h k.0, keyed_moved s old new a es k.1 h)

-- the entry of the longest front, found again
pub nearest_found : (name : List RdnModel) (d : List Entered) → nearest (rdns name) (map named d) ≡ option_map named
    (find (rdns (take (tree.front (rdns name) d) name)) d)
nearest_found name d = nearest_shown (rdns name) d ∙ ap (λ (q : NameKey). option_map named (find q d))
    (sym (rdns_take (tree.front (rdns name) d) name))

-- what an update is told of a name
pub asked_some : (s : SchemaModel) (t : TreeModel) (name : List RdnModel) (x : Entered) → find (rdns name) t.entries ≡
    Some x → entry_asked (directory s t) name ≡ Ok (named x)
asked_some s t name x h = ap (λ (o : Option NamedEntry). or_refused o (not_found (directory s t) name))
    (entry_shown (rdns name) t.entries ∙ ap (option_map named) h)

pub asked_none : (s : SchemaModel) (t : TreeModel) (name : List RdnModel) → find (rdns name) t.entries ≡ None →
    entry_asked (directory s t) name ≡ Err (not_found (directory s t) name)
asked_none s t name h = ap (λ (o : Option NamedEntry). or_refused o (not_found (directory s t) name))
    (entry_shown (rdns name) t.entries ∙ ap (option_map named) h)
