-- What a modify doesn't touch stays: the attributes of each type that no change names, but for objectClass.
use Rattle.std.proofs.Common.{ℕ, ◌+◌, suc, List, [], ◌∷◌, ◌++◌, Bool, true, false, cond, not, nat_eq, Option, None, Some, Result, Ok, Err, IfOk, ◌≡◌, ◌<◌, refl, ap, ap₂, sym, subst, ◌∙◌, map, length, take, drop, get_or, is_some, arith, append_assoc}
use Rattle.std.specs.Prelude.{◌||◌, filter}
use Rattle.std.specs.List.{list_any, list_all, prefix_len}
use Rattle.std.specs.Option.{ok_or, option_eq}
use Rattle.std.proofs.lemmas.Bool.{eqb-true, eq-eqb}
use Rattle.std.proofs.lemmas.List.{append-nil, map-append, take_more}
use Rattle.std.proofs.lemmas.List.Folds.{list_any-append}
use Rattle.std.proofs.lemmas.List.Elements.{filter-append}
use Rattle.entry_changes.specs.ldap_schema.Schema.{SchemaModel, find}
use Rattle.entry_changes.specs.ldap_schema.ObjectClassType.{object_class_type}
use Rattle.dir_entry.specs.ldap_words.declared.rule.Rule.{Rule}
use Rattle.entry_changes.specs.ldap_schema.Rules.{equality_of}
use Rattle.entry_changes.specs.ldap_dn.Names.{TypeAndValue}
use Rattle.ldap_op.specs.ldap_parts.UpdateValues.{ChangeValue}
use Rattle.ldap_op.specs.ldap_parts.declared.modify.ModifyOperation.{ModifyOperation}
use Rattle.ldap_op.specs.ldap_parts.declared.modify.ModifyOperation.TheVariants.{Add, Delete, Replace, Increment}
use Rattle.entry_changes.specs.dir_entry.Entry.{AttributeModel, KeyedAttribute, shown, attributes_of, IsKeyedBy, are_in_syntax}
use Rattle.entry_changes.specs.dir_entry.ldap_match.Keyed.{AreKeysBy, AreKeysOf, key_at}
use Rattle.entry_changes.specs.dir_entry.Values.{has_repeats}
use Rattle.entry_changes.specs.dir_entry.Adding.{refuse, has_type}
use Rattle.entry_changes.specs.Editing.{holds, values_of, values_left, attribute_with, with_values_of, is_empty, with_added, with_deleted, with_replaced}
use Rattle.entry_changes.specs.Naming.{and_then, has_rdn}
use Rattle.entry_updates.specs.Classes.{is_object_class, with_some, completed, missing_names, has_single_values, obeys_classes}
use Rattle.entry_updates.specs.Structural.{changes_class, kept_completed}
use Rattle.entry_updates.specs.Finishing.{kept}
use Rattle.entry_updates.specs.Modifying.{is_increment, with_change, all_changed, attributes_changed}
use Rattle.entry_updates.specs.private.Touched.{of_type, types_named, is_touched}
use Rattle.entry_updates.specs.Touched.{is_by_values, type_whole, values_named, types_whole, all_values_named, types_unruled, types_touched}

-- ---- an attribute in another's place

pub then_one : (n : ℕ) → 1 + n ≡ suc n
then_one n = omega arith

pub suc_one : (n : ℕ) → suc n + 1 ≡ suc (n + 1)
suc_one n = omega arith

others_stay : {A : Type 0} (f g : A → Bool) (w : List A) → ((x : A) → g x ≡ true → f x ≡ false) → filter f w ≡ [] →
    (e : List A) → filter f (take (prefix_len (λ x. not (g x)) e) e ++ w ++ drop (prefix_len (λ x. not (g x)) e + 1) e)
    ≡ filter f e
others_stay f g w h n [] = ap (filter f) (append-nil w) ∙ n
others_stay {A} f g w h n (x ∷ e) = by (g x) refl (others_stay f g w h n e)
  where
    i : ℕ
    i = prefix_len (λ (y : A). not (g y)) e

    by : (b : Bool) → g x ≡ b → filter f (take i e ++ w ++ drop (i + 1) e) ≡ filter f e →
        filter f (take (cond (not b) (1 + i) 0) (x ∷ e) ++ w ++ drop (cond (not b) (1 + i) 0 + 1) (x ∷ e)) ≡
        cond (f x) (x ∷ filter f e) (filter f e)
    by true k ih =
        filter-append f w e ∙ ap (λ (l : List A). l ++ filter f e) n
        ∙ sym (ap (λ (b : Bool). cond b (x ∷ filter f e) (filter f e)) (h x k))
    by false k ih =
        ap (λ (m : ℕ). filter f (take m (x ∷ e) ++ w ++ drop (m + 1) (x ∷ e))) (then_one i)
        ∙ ap (λ (m : ℕ). filter f (take (suc i) (x ∷ e) ++ w ++ drop m (x ∷ e))) (suc_one i)
        ∙ ap (λ (l : List A). cond (f x) (x ∷ l) l) ih

other_kind : (k t u : ℕ) → nat_eq t u ≡ false → nat_eq k t ≡ true → nat_eq k u ≡ false
other_kind k t u h e = ap (λ (n : ℕ). nat_eq n u) (eqb-true k t e) ∙ h

none_with : (t u : ℕ) (vs : List (List ℕ)) → nat_eq t u ≡ false → of_type u (attribute_with t vs) ≡ []
none_with t u [] h = refl
none_with t u (v ∷ vs) h = let a : AttributeModel = record { kind = t; values = v ∷ vs } in ap (λ (b : Bool). cond b
    (a ∷ []) []) h

values_stay : (t u : ℕ) (vs : List (List ℕ)) (e : List AttributeModel) → nat_eq t u ≡ false →
    of_type u (with_values_of t vs e) ≡ of_type u e
values_stay t u vs e h = others_stay (λ (a : AttributeModel). nat_eq a.kind u) (λ (a : AttributeModel). nat_eq a.kind t)
    (attribute_with t vs) (λ a k. other_kind a.kind t u h k) (none_with t u vs h) e

-- ---- results

-- what is made is the same to a look at an entry
abbrev pub Keeps : {A : Type 0} → (List AttributeModel → A) → List AttributeModel → Result (List AttributeModel) ℕ →
    Type 0
Keeps look e r = IfOk r (λ d. look d ≡ look e)

pub otherwise : {A : Type 0} (look : List AttributeModel → A) (b : Bool) (code : ℕ) (e : List AttributeModel)
    (r : Result (List AttributeModel) ℕ) → Keeps look e r → Keeps look e (refuse b code r)
otherwise look true code e r h = tt
otherwise look false code e r h = h

pub go_on : {A : Type 0} (look : List AttributeModel → A) (e : List AttributeModel)
    (r : Result (List AttributeModel) ℕ) (next : List AttributeModel → Result (List AttributeModel) ℕ) →
    Keeps look e r → ((d : List AttributeModel) → Keeps look d (next d)) → Keeps look e (and_then r next)
go_on look e (Err code) next h k = tt
go_on look e (Ok d) next h k = by (next d) (k d)
  where
    by : (r : Result (List AttributeModel) ℕ) → Keeps look d r → Keeps look e r
    by (Err code) g = tt
    by (Ok f) g = g ∙ h

-- what is made has the same attributes of a type
abbrev pub Stays : ℕ → List AttributeModel → Result (List AttributeModel) ℕ → Type 0
Stays u e r = Keeps (of_type u) e r

unless : (b : Bool) (code u : ℕ) (e : List AttributeModel) (r : Result (List AttributeModel) ℕ) → Stays u e r →
    Stays u e (refuse b code r)
unless b code u e r h = otherwise (of_type u) b code e r h

onwards : (u : ℕ) (e : List AttributeModel) (r : Result (List AttributeModel) ℕ)
    (next : List AttributeModel → Result (List AttributeModel) ℕ) → Stays u e r →
    ((d : List AttributeModel) → Stays u d (next d)) → Stays u e (and_then r next)
onwards u e r next h k = go_on (of_type u) e r next h k

-- ---- changes

added_stays : (s : SchemaModel) (t u : ℕ) (vs : List (List ℕ)) (e : List AttributeModel) → nat_eq t u ≡ false →
    Stays u e (with_added s t vs e)
added_stays s t u vs e h =
    let made : Result (List AttributeModel) ℕ = Ok (with_values_of t (values_of t e ++ vs) e) in
    let free = refuse (list_any (holds s t (values_of t e)) vs) 20 made in
    let single = refuse (has_repeats s t vs) 20 free in
    unless (is_empty vs) 19 u e (refuse (not (are_in_syntax s t vs)) 21 single) (unless (not (are_in_syntax s t vs)) 21
    u e single (unless (has_repeats s t vs) 20 u e free (unless (list_any (holds s t (values_of t e)) vs) 20 u e made
    (values_stay t u (values_of t e ++ vs) e h))))

deleted_stays : (s : SchemaModel) (t u : ℕ) (vs : List (List ℕ)) (e : List AttributeModel) → nat_eq t u ≡ false →
    Stays u e (with_deleted s t vs e)
deleted_stays s t u [] e h = unless (not (has_type t e)) 16 u e (Ok (with_values_of t [] e)) (values_stay t u [] e h)
deleted_stays s t u (v ∷ vs) e h =
    let left = values_left s t (v ∷ vs) (values_of t e) in
    let made : Result (List AttributeModel) ℕ = Ok (with_values_of t left e) in
    let held = not (list_all (holds s t (values_of t e)) (v ∷ vs)) in
    unless (not (are_in_syntax s t (v ∷ vs))) 21 u e (refuse held 16 made) (unless held 16 u e made
    (values_stay t u left e h))

replaced_stays : (s : SchemaModel) (t u : ℕ) (vs : List (List ℕ)) (e : List AttributeModel) → nat_eq t u ≡ false →
    Stays u e (with_replaced s t vs e)
replaced_stays s t u vs e h =
    let made : Result (List AttributeModel) ℕ = Ok (with_values_of t vs e) in
    unless (not (are_in_syntax s t vs)) 21 u e (refuse (has_repeats s t vs) 20 made) (unless (has_repeats s t vs) 20 u
    e made (values_stay t u vs e h))

pub change_stays : (s : SchemaModel) (o : ModifyOperation) (t u : ℕ) (vs : List (List ℕ)) (e : List AttributeModel) →
    nat_eq t u ≡ false → Stays u e (with_change s o t vs e)
change_stays s Add t u vs e h = added_stays s t u vs e h
change_stays s Delete t u vs e h = deleted_stays s t u vs e h
change_stays s Replace t u vs e h = replaced_stays s t u vs e h
change_stays s Increment t u vs e h = tt

pub turned : (t u : ℕ) → nat_eq u t ≡ false → nat_eq t u ≡ false
turned t u h = by (nat_eq t u) refl
  where
    by : (b : Bool) → nat_eq t u ≡ b → b ≡ false
    by false e = refl
    by true e = sym (eq-eqb u t (sym (eqb-true t u e))) ∙ h

pub left_off : (a b : Bool) → (a || b) ≡ false → a ≡ false
left_off true b h = h
left_off false b h = refl

pub right_off : (a b : Bool) → (a || b) ≡ false → b ≡ false
right_off true b h = let y : true ≡ false = h in cc
right_off false b h = h

all_stay : (s : SchemaModel) (cs : List ChangeValue) (u : ℕ) (e : List AttributeModel) →
    list_any (nat_eq u) (types_named s cs) ≡ false → Stays u e (all_changed s cs e)
all_stay s [] u e h = refl
all_stay s (c ∷ cs) u e h = by (λ d k. all_stay s cs u d k) (find s c.modification.description) h
  where
    by : ((d : List AttributeModel) → list_any (nat_eq u) (types_named s cs) ≡ false → Stays u d (all_changed s cs d)) →
        (o : Option ℕ) → list_any (nat_eq u) (with_some o (types_named s cs)) ≡ false →
        Stays u e (and_then (refuse (is_increment c.operation) 2
        (and_then (ok_or o 17) (λ t. with_change s c.operation t c.modification.values e))) (all_changed s cs))
    by ih None k = onwards u e (refuse (is_increment c.operation) 2 (Err 17)) (all_changed s cs)
        (unless (is_increment c.operation) 2 u e (Err 17) tt) (λ d. ih d k)
    by ih (Some t) k =
        let made = with_change s c.operation t c.modification.values e in
        onwards u e (refuse (is_increment c.operation) 2 made) (all_changed s cs)
        (unless (is_increment c.operation) 2 u e made (change_stays s c.operation t u c.modification.values e
        (turned t u (left_off (nat_eq u t) (list_any (nat_eq u) (types_named s cs)) k))))
        (λ d. ih d (right_off (nat_eq u t) (list_any (nat_eq u) (types_named s cs)) k))

-- ---- superclasses join objectClass alone

other_class : (s : SchemaModel) (k u : ℕ) → is_object_class s u ≡ false → is_object_class s k ≡ true →
    nat_eq k u ≡ false
other_class s k u h o = by (nat_eq k u) refl
  where
    by : (b : Bool) → nat_eq k u ≡ b → b ≡ false
    by false e = refl
    by true e = sym o ∙ ap (is_object_class s) (eqb-true k u e) ∙ h

completed_stays : (s : SchemaModel) (u : ℕ) (e : List AttributeModel) → is_object_class s u ≡ false →
    of_type u (completed s e) ≡ of_type u e
completed_stays s u [] h = refl
completed_stays s u (a ∷ e) h = by (is_object_class s a.kind) refl (completed_stays s u e h)
  where
    more : AttributeModel
    more = record { kind = a.kind; values = a.values ++ missing_names s a.values }

    by : (b : Bool) → is_object_class s a.kind ≡ b → of_type u (completed s e) ≡ of_type u e →
        of_type u (cond b more a ∷ completed s e) ≡ of_type u (a ∷ e)
    by true o ih =
        let other = other_class s a.kind u h o in
        ap (λ (b : Bool). cond b (more ∷ of_type u (completed s e)) (of_type u (completed s e))) other ∙ ih
        ∙ sym (ap (λ (b : Bool). cond b (a ∷ of_type u e) (of_type u e)) other)
    by false o ih = ap (λ (l : List AttributeModel). cond (nat_eq a.kind u) (a ∷ l) l) ih

pub kept_stays : (s : SchemaModel) (rdn : List TypeAndValue) (before : List AttributeModel) (u : ℕ)
    (e : List AttributeModel) → is_object_class s u ≡ false → Stays u e (kept s rdn before e)
kept_stays s rdn before u e h =
    let d = completed s e in
    let made : Result (List AttributeModel) ℕ = Ok d in
    let obeyed = refuse (not (obeys_classes s d)) 65 made in
    let same = refuse (changes_class s before d) 69 obeyed in
    unless (not (has_rdn s rdn e)) 67 u e (kept_completed s before d) (unless (not (has_single_values s d)) 19 u e same
    (unless (changes_class s before d) 69 u e obeyed (unless (not (obeys_classes s d)) 65 u e made (completed_stays s u
    e h))))

-- the attributes of a type that a modify doesn't touch
pub attributes_stay : (s : SchemaModel) (rdn : List TypeAndValue) (cs : List ChangeValue) (e : List AttributeModel)
    (u : ℕ) → is_touched s cs u ≡ false → IfOk (attributes_changed s rdn cs e) (λ d. of_type u d ≡ of_type u e)
attributes_stay s rdn cs e u h =
    onwards u e (all_changed s cs e) (kept s rdn e)
    (all_stay s cs u e (right_off (is_object_class s u) (list_any (nat_eq u) (types_named s cs)) h))
    (λ d. kept_stays s rdn e u d (left_off (is_object_class s u) (list_any (nat_eq u) (types_named s cs)) h))

-- ---- types without a rule, one after the other

unruled_more : (s : SchemaModel) (e : List AttributeModel) (a : AttributeModel) → types_unruled s (e ++ a ∷ []) ≡
    types_unruled s e ++ cond (is_some (equality_of s a.kind)) [] (a.kind ∷ [])
unruled_more s [] a = refl
unruled_more s (x ∷ e) a = by (is_some (equality_of s x.kind)) (unruled_more s e a)
  where
    by : (b : Bool) → types_unruled s (e ++ a ∷ []) ≡ types_unruled s e ++ cond (is_some (equality_of s a.kind)) []
        (a.kind ∷ []) → cond b (types_unruled s (e ++ a ∷ [])) (x.kind ∷ types_unruled s (e ++ a ∷ [])) ≡
        cond b (types_unruled s e) (x.kind ∷ types_unruled s e) ++ cond (is_some (equality_of s a.kind)) []
        (a.kind ∷ [])
    by true ih = ih
    by false ih = ap (λ (l : List ℕ). x.kind ∷ l) ih

unruled_step : (s : SchemaModel) (e : List KeyedAttribute) (i : ℕ) (a : KeyedAttribute) → i < length e →
    a ≡ get_or e i a → types_unruled s (attributes_of (take (i + 1) e)) ≡ types_unruled s (attributes_of (take i e)) ++
    cond (is_some (equality_of s a.kind)) [] (a.kind ∷ [])
unruled_step s e i a h is =
    ap (λ (l : List KeyedAttribute). types_unruled s (attributes_of l)) (take_more e i a h
    ∙ ap (λ (x : KeyedAttribute). take i e ++ x ∷ []) (sym is))
    ∙ ap (types_unruled s) (map-append shown (take i e) (a ∷ []))
    ∙ unruled_more s (attributes_of (take i e)) (shown a)

pub unruled_pushed : (s : SchemaModel) (e : List KeyedAttribute) (i : ℕ) (a : KeyedAttribute)
    (old items new : List ℕ) → i < length e → a ≡ get_or e i a → is_some (equality_of s a.kind) ≡ false →
    items ≡ old ++ types_unruled s (attributes_of (take i e)) → new ≡ items ++ a.kind ∷ [] →
    new ≡ old ++ types_unruled s (attributes_of (take (i + 1) e))
unruled_pushed s e i a old items new h is none so_far pushed =
    pushed ∙ ap (λ (l : List ℕ). l ++ a.kind ∷ []) so_far
    ∙ append_assoc old (types_unruled s (attributes_of (take i e))) (a.kind ∷ [])
    ∙ ap (λ (l : List ℕ). old ++ l) (sym (unruled_step s e i a h is
    ∙ ap (λ (b : Bool). types_unruled s (attributes_of (take i e)) ++ cond b [] (a.kind ∷ [])) none))

pub unruled_passed : (s : SchemaModel) (e : List KeyedAttribute) (i : ℕ) (a : KeyedAttribute) (old items : List ℕ) →
    i < length e → a ≡ get_or e i a → is_some (equality_of s a.kind) ≡ true →
    items ≡ old ++ types_unruled s (attributes_of (take i e)) →
    items ≡ old ++ types_unruled s (attributes_of (take (i + 1) e))
unruled_passed s e i a old items h is some so_far =
    so_far ∙ ap (λ (l : List ℕ). old ++ l) (sym (unruled_step s e i a h is
    ∙ ap (λ (b : Bool). types_unruled s (attributes_of (take i e)) ++ cond b [] (a.kind ∷ [])) some
    ∙ append-nil (types_unruled s (attributes_of (take i e)))))

-- ---- attributes with their keys

shown_of : (u : ℕ) (e : List KeyedAttribute) → of_type u (attributes_of e) ≡ attributes_of
    (filter (λ a. nat_eq a.kind u) e)
shown_of u [] = refl
shown_of u (a ∷ e) = by (nat_eq a.kind u) (shown_of u e)
  where
    by : (b : Bool) → of_type u (attributes_of e) ≡ attributes_of (filter (λ x. nat_eq x.kind u) e) →
        cond b (shown a ∷ of_type u (attributes_of e)) (of_type u (attributes_of e)) ≡ attributes_of
        (cond b (a ∷ filter (λ x. nat_eq x.kind u) e) (filter (λ x. nat_eq x.kind u) e))
    by true ih = ap (λ (l : List AttributeModel). shown a ∷ l) ih
    by false ih = ih

keyed_of : (s : SchemaModel) (u : ℕ) (e : List KeyedAttribute) → IsKeyedBy s e →
    IsKeyedBy s (filter (λ a. nat_eq a.kind u) e)
keyed_of s u [] h = tt
keyed_of s u (a ∷ e) h = by (nat_eq a.kind u) (keyed_of s u e h.1)
  where
    by : (b : Bool) → IsKeyedBy s (filter (λ x. nat_eq x.kind u) e) →
        IsKeyedBy s (cond b (a ∷ filter (λ x. nat_eq x.kind u) e) (filter (λ x. nat_eq x.kind u) e))
    by true ih = (h.0, ih)
    by false ih = ih

-- each of these is of the type
abbrev AllOf : ℕ → List KeyedAttribute → Type 0
AllOf u [] = Unit {0}
AllOf u (a ∷ e) = (a.kind ≡ u) × AllOf u e

some_apart : (xs ys : List (List ℕ)) → map Some xs ≡ map Some ys → xs ≡ ys
some_apart [] [] h = refl
some_apart [] (y ∷ ys) h = absurd (cc h)
some_apart (x ∷ xs) [] h = absurd (cc h)
some_apart (x ∷ xs) (y ∷ ys) h =
    let same : x ≡ y = cc h in
    let rest : map Some xs ≡ map Some ys = cc h in
    ap₂ (λ (z : List ℕ) (zs : List (List ℕ)). z ∷ zs) same (some_apart xs ys rest)

same_attribute : (x y : KeyedAttribute) → x.kind ≡ y.kind → x.values ≡ y.values → x.keys ≡ y.keys → x ≡ y
same_attribute x y k v e =
    ap (λ (n : ℕ). let z : KeyedAttribute = record { kind = n; values = x.values; keys = x.keys } in z) k
    ∙ ap (λ (l : List (List ℕ)). let z : KeyedAttribute = record { kind = y.kind; values = l; keys = x.keys } in z) v
    ∙ ap (λ (l : List (List ℕ)). let z : KeyedAttribute = record { kind = y.kind; values = y.values; keys = l } in z) e

pub keys_by : (s : SchemaModel) (k : ℕ) (values keys : List (List ℕ)) (r : Rule) → equality_of s k ≡ Some r →
    AreKeysOf s k values keys → map (key_at s r) values ≡ map Some keys
keys_by s k values keys r e h = subst (λ (o : Option Rule). AreKeysBy s o values keys) e h

-- under a rule the values give the keys
same_keyed : (s : SchemaModel) (u : ℕ) (r : Rule) (b a : List KeyedAttribute) → equality_of s u ≡ Some r →
    AllOf u b → IsKeyedBy s b → IsKeyedBy s a → attributes_of b ≡ attributes_of a → b ≡ a
same_keyed s u r [] [] e o h k same = refl
same_keyed s u r [] (y ∷ ys) e o h k same = absurd (cc same)
same_keyed s u r (x ∷ xs) [] e o h k same = absurd (cc same)
same_keyed s u r (x ∷ xs) (y ∷ ys) e o h k same =
    let head : shown x ≡ shown y = cc same in
    let rest : attributes_of xs ≡ attributes_of ys = cc same in
    let kind : x.kind ≡ y.kind = ap (λ (z : AttributeModel). z.kind) head in
    let values : x.values ≡ y.values = ap (λ (z : AttributeModel). z.values) head in
    let ruled : equality_of s x.kind ≡ Some r = ap (equality_of s) o.0 ∙ e in
    let keys = some_apart x.keys y.keys (sym (keys_by s x.kind x.values x.keys r ruled h.0)
    ∙ ap (map (key_at s r)) values
    ∙ keys_by s y.kind y.values y.keys r (ap (equality_of s) (sym kind) ∙ ruled) k.0) in
    ap₂ (λ (z : KeyedAttribute) (zs : List KeyedAttribute). z ∷ zs) (same_attribute x y kind values keys)
    (same_keyed s u r xs ys e o.1 h.1 k.1 rest)

all_of : (u : ℕ) (e : List KeyedAttribute) → AllOf u (filter (λ a. nat_eq a.kind u) e)
all_of u [] = tt
all_of u (a ∷ e) = by (nat_eq a.kind u) refl (all_of u e)
  where
    by : (b : Bool) → nat_eq a.kind u ≡ b → AllOf u (filter (λ x. nat_eq x.kind u) e) →
        AllOf u (cond b (a ∷ filter (λ x. nat_eq x.kind u) e) (filter (λ x. nat_eq x.kind u) e))
    by true f ih = (eqb-true a.kind u f, ih)
    by false f ih = ih

none_shown : (e : List KeyedAttribute) → attributes_of e ≡ [] → e ≡ []
none_shown [] h = refl
none_shown (a ∷ e) h = absurd (cc h)

-- of a type without a rule that isn't among those of the entry the entry has no attribute
none_unruled : (s : SchemaModel) (u : ℕ) (e : List AttributeModel) → is_some (equality_of s u) ≡ false →
    list_any (nat_eq u) (types_unruled s e) ≡ false → of_type u e ≡ []
none_unruled s u [] none h = refl
none_unruled s u (a ∷ e) none h = by (λ k. none_unruled s u e none k) (nat_eq a.kind u) refl (is_some (equality_of s
    a.kind)) refl h
  where
    by : (list_any (nat_eq u) (types_unruled s e) ≡ false → of_type u e ≡ []) → (b : Bool) → nat_eq a.kind u ≡ b →
        (r : Bool) → is_some (equality_of s a.kind) ≡ r → list_any (nat_eq u)
        (cond r (types_unruled s e) (a.kind ∷ types_unruled s e)) ≡ false →
        cond b (a ∷ of_type u e) (of_type u e) ≡ []
    by ih false f true g k = ih k
    by ih false f false g k = ih (right_off (nat_eq u a.kind) (list_any (nat_eq u) (types_unruled s e)) k)
    by ih true f true g k = let y : true ≡ false = sym g
        ∙ ap (λ (n : ℕ). is_some (equality_of s n)) (eqb-true a.kind u f) ∙ none in absurd (cc y)
    by ih true f false g k = let y : true ≡ false = sym (eq-eqb u a.kind (sym (eqb-true a.kind u f)))
        ∙ left_off (nat_eq u a.kind) (list_any (nat_eq u) (types_unruled s e)) k in absurd (cc y)

-- ---- what isn't among the types that are touched

pub not_class : (s : SchemaModel) (u : ℕ) (ts : List ℕ) → list_any (nat_eq u) (with_some (object_class_type s) ts) ≡ false →
    (is_object_class s u ≡ false) × (list_any (nat_eq u) ts ≡ false)
not_class s u ts h = by (object_class_type s) h
  where
    by : (o : Option ℕ) → list_any (nat_eq u) (with_some o ts) ≡ false → (option_eq nat_eq (Some u) o ≡ false) ×
        (list_any (nat_eq u) ts ≡ false)
    by None k = (refl, k)
    by (Some t) k = (
      left_off (nat_eq u t) (list_any (nat_eq u) ts) k,
      right_off (nat_eq u t) (list_any (nat_eq u) ts)
          k,
    )

-- types that changes name are touched whole, or are those of named values
named_covered : (s : SchemaModel) (u : ℕ) (cs : List ChangeValue) → list_any (nat_eq u) (types_whole s cs) ≡ false →
    has_type u (all_values_named s cs) ≡ false → list_any (nat_eq u) (types_named s cs) ≡ false
named_covered s u [] h k = refl
named_covered s u (c ∷ cs) h k = by (find s c.modification.description) (named_covered s u cs) h k
  where
    more : (t : ℕ) (b : Bool) → (list_any (nat_eq u) (types_whole s cs) ≡ false → has_type u (all_values_named s cs) ≡
        false → list_any (nat_eq u) (types_named s cs) ≡ false) → list_any (nat_eq u) (cond b [] (t ∷ []) ++ types_whole
        s cs) ≡ false → has_type u (cond b (record { kind = t; values = c.modification.values } ∷ []) [] ++
        all_values_named s cs) ≡ false → list_any (nat_eq u) (t ∷ types_named s cs) ≡ false
    more t true ih h k =
        ap₂ (λ (x y : Bool). x || y) (turned u t (left_off (nat_eq t u) (has_type u (all_values_named s cs)) k))
        (ih h (right_off (nat_eq t u) (has_type u (all_values_named s cs)) k))
    more t false ih h k =
        ap₂ (λ (x y : Bool). x || y) (left_off (nat_eq u t) (list_any (nat_eq u) (types_whole s cs)) h)
        (ih (right_off (nat_eq u t) (list_any (nat_eq u) (types_whole s cs)) h) k)

    by : (o : Option ℕ) → (list_any (nat_eq u) (types_whole s cs) ≡ false → has_type u (all_values_named s cs) ≡
        false → list_any (nat_eq u) (types_named s cs) ≡ false) → list_any (nat_eq u) (type_whole s c o ++ types_whole s
        cs) ≡ false → has_type u (values_named s c o ++ all_values_named s cs) ≡ false →
        list_any (nat_eq u) (with_some o (types_named s cs)) ≡ false
    by None ih h k = ih h k
    by (Some t) ih h k = more t (is_by_values s c t) ih h k

pub type_shown : (u : ℕ) (e : List KeyedAttribute) → has_type u (attributes_of e) ≡ list_any (λ a. nat_eq a.kind u) e
type_shown u [] = refl
type_shown u (a ∷ e) = ap (λ (b : Bool). nat_eq a.kind u || b) (type_shown u e)

-- An entry with its keys, of a type that isn't touched whole and of which no value is named, as it is behind a modify.
pub keyed_stay : (s : SchemaModel) (rdn : List TypeAndValue) (cs : List ChangeValue) (named b a : List KeyedAttribute) →
    attributes_of named ≡ all_values_named s cs → IsKeyedBy s b → IsKeyedBy s a →
    attributes_changed s rdn cs (attributes_of b) ≡ Ok (attributes_of a) →
    (u : ℕ) → list_any (nat_eq u) (types_touched s cs (attributes_of b)) ≡ false →
    list_any (λ x. nat_eq x.kind u) named ≡ false →
    filter (λ x. nat_eq x.kind u) b ≡ filter (λ x. nat_eq x.kind u) a
keyed_stay s rdn cs named b a values h k made u none beside =
    let whole = types_whole s cs in
    let unruled = types_unruled s (attributes_of b) in
    let c = not_class s u (whole ++ unruled) none in
    let both = sym (list_any-append (nat_eq u) whole unruled) ∙ c.1 in
    let apart = named_covered s u cs (left_off (list_any (nat_eq u) whole) (list_any (nat_eq u) unruled) both)
    (sym (ap (has_type u) values) ∙ type_shown u named ∙ beside) in
    let free : is_touched s cs u ≡ false = ap₂ (λ (x y : Bool). x || y) c.0 apart in
    let stays = subst (λ (r : Result (List AttributeModel) ℕ). IfOk r (λ d. of_type u d ≡ of_type u (attributes_of b)))
    made (attributes_stay s rdn cs (attributes_of b) u free) in
    let same : attributes_of (filter (λ x. nat_eq x.kind u) b) ≡ attributes_of (filter (λ x. nat_eq x.kind u) a) =
    sym (shown_of u b) ∙ sym stays ∙ shown_of u a in
    by (equality_of s u) refl (right_off (list_any (nat_eq u) whole) (list_any (nat_eq u) unruled) both) same
  where
    by : (o : Option Rule) → equality_of s u ≡ o → list_any (nat_eq u) (types_unruled s (attributes_of b)) ≡ false →
        attributes_of (filter (λ x. nat_eq x.kind u) b) ≡ attributes_of (filter (λ x. nat_eq x.kind u) a) →
        filter (λ x. nat_eq x.kind u) b ≡ filter (λ x. nat_eq x.kind u) a
    by (Some r) e n same = same_keyed s u r (filter (λ x. nat_eq x.kind u) b) (filter (λ x. nat_eq x.kind u) a) e
        (all_of u b) (keyed_of s u b h) (keyed_of s u a k) same
    by None e n same =
        let gone = none_unruled s u (attributes_of b) (ap is_some e) n in
        let before = none_shown (filter (λ x. nat_eq x.kind u) b) (sym (shown_of u b) ∙ gone) in
        let after = none_shown (filter (λ x. nat_eq x.kind u) a) (sym same ∙ ap attributes_of before) in
        before ∙ sym after
