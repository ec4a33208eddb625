-- The rules in effect for the types of a text without faults are of one family.
use Rattle.std.proofs.Common.{ℕ, ◌+◌, ◌<◌, zero, suc, List, [], ◌∷◌, Bool, true, false, cond, not, ◌&&◌, Option, None, Some, ◌≡◌, refl, sym, ap, ◌∙◌, subst, length, reverse, slice_get, nat_eq, arith}
use Rattle.std.proofs.lemmas.Bool.{eqb-true}
use Rattle.std.specs.List.{AllByRecursion}
use Rattle.ldap_match.specs.ldap_words.Families.{is_ordering, has_substrings}
use Rattle.ldap_match.specs.ldap_words.declared.rule.Family.{Family}
use Rattle.ldap_match.specs.ldap_words.declared.rule.Family.TheVariants as family
use Rattle.ldap_match.specs.ldap_words.declared.rule.Rule.{Rule}
use Rattle.ldap_match.specs.ldap_schema.Schema.{SchemaModel, TypeModel}
use Rattle.ldap_match.specs.Item.{of_family, beside}
use Rattle.schema_reader.specs.schema_text.Descriptions.{DescriptionModel, first_text_at}
use Rattle.schema_reader.specs.schema_text.Texts.{SchemaTextModel, read_text}
use Rattle.schema_reader.specs.schema_meaning.ldap_words.RulesByName.{ordering_family, substrings_family, family_number}
use Rattle.schema_reader.specs.schema_meaning.Naming.{is_repeated}
use Rattle.schema_reader.specs.schema_meaning.Inheriting.{lineage, family_by, or_family, kept, agree, family_of, is_of_family, inherited, nothing, own_in, own_at, effect_down, effect_along, effect_of, has_lineage, differs, is_mixed, lacks_syntax, is_unfit}
use Rattle.schema_reader.specs.schema_meaning.Faults.{is_bad_type, first_of_types, first_of_all, bad_line}
use Rattle.schema_reader.specs.schema_meaning.declared.inheriting.Effect.{Effect}
use Rattle.schema_reader.specs.schema_meaning.declared.inheriting.Given.{Given}
use Rattle.schema_reader.specs.Described.{rule_on, known_syntax, type_with, types_from, schema_of}
use Rattle.schema_reader.specs.Reading.{has_no_equality, no_equality_line, loop_line, refused_at, fault_of, unknown_of, loop_fault}
use Rattle.schema_reader.specs.declared.error.SchemaError.{SchemaError}
use Rattle.schema_reader.specs.declared.error.SchemaError.TheVariants.{BadDescription, UnknownName, LoopInSup, NoEquality}
use Rattle.ldap_dn.proofs.Spelled.{none_some, some_same}
use Rattle.schema_laws.specs.Ruled.{IsNoneOr, IsOfOneFamily, ReadTypesAreOfOneFamily}
use Rattle.schema_laws.proofs.Lettered.{not_left, not_right}
use Rattle.schema_laws.proofs.FirstFound.{type_at, some_at, count_types, refused_none, first_none, second_none, none_bad_by, no_fault}

-- ---- families by their numbers

abbrev numbered : ℕ → Family
numbered n =
    cond (nat_eq n 0) family.Identifier
    (cond (nat_eq n 1) family.Name
    (cond (nat_eq n 2) family.Ignore
    (cond (nat_eq n 3) family.Exact
    (cond (nat_eq n 4) family.Numeric
    (cond (nat_eq n 5) family.Boolean
    (cond (nat_eq n 6) family.Integer
    (cond (nat_eq n 7) family.Octet
    (cond (nat_eq n 8) family.Telephone
    (cond (nat_eq n 9) family.Time
    (cond (nat_eq n 10) family.Ia5 family.Ia5Exact))))))))))

numbered_back : (f : Family) → numbered (family_number f) ≡ f
numbered_back family.Identifier = refl
numbered_back family.Name = refl
numbered_back family.Ignore = refl
numbered_back family.Exact = refl
numbered_back family.Numeric = refl
numbered_back family.Boolean = refl
numbered_back family.Integer = refl
numbered_back family.Octet = refl
numbered_back family.Telephone = refl
numbered_back family.Time = refl
numbered_back family.Ia5 = refl
numbered_back family.Ia5Exact = refl

same_family : (f g : Family) → nat_eq (family_number f) (family_number g) ≡ true → f ≡ g
same_family f g h = sym (numbered_back f) ∙ ap numbered (eqb-true (family_number f) (family_number g) h)
    ∙ numbered_back g

-- ---- a rule in effect is one that its family has

abbrev IsOffered : (Family → Bool) → Option Family → Type 0
IsOffered offers None = Unit {0}
IsOffered offers (Some f) = offers f ≡ true

record Offer (offers : Family → Bool) (o : Option Family) : Type 0 where
  is : IsOffered offers o

none_offered : (offers : Family → Bool) → Offer offers None
none_offered offers = record { is = tt }

offered_by : (offers : Family → Bool) (b : Bool) (f : Family) (o : Option Family) → offers f ≡ true → Offer offers o →
    Offer offers (cond b (Some f) o)
offered_by offers true f o h k = record { is = h }
offered_by offers false f o h k = k

ordering_offered : (w : List ℕ) → Offer is_ordering (ordering_family w)
ordering_offered w =
    offered_by is_ordering _ family.Ignore _ refl
    (offered_by is_ordering _ family.Exact _ refl
    (offered_by is_ordering _ family.Numeric _ refl
    (offered_by is_ordering _ family.Integer _ refl
    (offered_by is_ordering _ family.Time None refl (none_offered is_ordering)))))

substrings_offered : (w : List ℕ) → Offer has_substrings (substrings_family w)
substrings_offered w =
    offered_by has_substrings _ family.Ignore _ refl
    (offered_by has_substrings _ family.Exact _ refl
    (offered_by has_substrings _ family.Numeric _ refl
    (offered_by has_substrings _ family.Telephone _ refl
    (offered_by has_substrings _ family.Ia5 None refl (none_offered has_substrings)))))

word_offered : (offers : Family → Bool) (f : List ℕ → Option Family) → ((w : List ℕ) → IsOffered offers (f w)) →
    (o : Option (List ℕ)) → IsOffered offers (family_by f o)
word_offered offers f h None = tt
word_offered offers f h (Some w) = h w

kept_offered : (offers : Family → Bool) (b : Bool) (o : Option Family) → IsOffered offers o →
    IsOffered offers (kept b o)
kept_offered offers true o h = h
kept_offered offers false o h = tt

or_offered : (offers : Family → Bool) (o p : Option Family) → IsOffered offers o → IsOffered offers p →
    IsOffered offers (or_family o p)
or_offered offers None p h k = k
or_offered offers (Some f) p h k = h

record AreOffered (e : Effect) : Type 0 where
  ordering : IsOffered is_ordering e.ordering
  substrings : IsOffered has_substrings e.substrings

nothing_offered : AreOffered nothing
nothing_offered = record { ordering = tt; substrings = tt }

own_offered : (o : Option DescriptionModel) → AreOffered (own_in o)
own_offered None = nothing_offered
own_offered (Some d) = record {
  ordering = word_offered is_ordering ordering_family (λ w. (ordering_offered w).is) (first_text_at 6 d.fields);
  substrings = word_offered has_substrings substrings_family (λ w. (substrings_offered w).is)
      (first_text_at 7 d.fields);
}

inherited_offered : (above mine : Effect) → AreOffered above → AreOffered mine → AreOffered (inherited above mine)
inherited_offered above mine h k = record {
  ordering = or_offered is_ordering mine.ordering (kept (agree mine.equality (family_of above)) above.ordering)
      k.ordering (kept_offered is_ordering (agree mine.equality (family_of above)) above.ordering h.ordering);
  substrings = or_offered has_substrings mine.substrings (kept (agree mine.equality (family_of above))
      above.substrings) k.substrings (kept_offered has_substrings (agree mine.equality (family_of above))
      above.substrings h.substrings);
}

down_offered : (types : List DescriptionModel) (above : Effect) (ts : List ℕ) → AreOffered above →
    AreOffered (effect_down types above ts)
down_offered types above [] h = h
down_offered types above (t ∷ ts) h = down_offered types (inherited above (own_at types t)) ts
    (inherited_offered above (own_at types t) h (own_offered (slice_get types t)))

along_offered : (types : List DescriptionModel) (t : ℕ) (chain : Option (List ℕ)) →
    AreOffered (effect_along types t chain)
along_offered types t None = own_offered (slice_get types t)
along_offered types t (Some chain) = down_offered types nothing (reverse chain) nothing_offered

-- ---- rules that are not mixed

record AreOfFamily (f : Family) (e : Effect) : Type 0 where
  ordering : is_of_family f e.ordering ≡ true
  substrings : is_of_family f e.substrings ≡ true

all_three : (a b c : Bool) → not (a && b && c) ≡ false → (b ≡ true) × (c ≡ true)
all_three true true true h = (refl, refl)
all_three true true false h = cc
all_three true false c h = cc
all_three false b c h = cc

unmixed_by : (f : Family) (q : Option Family) (e : Effect) → q ≡ Some f →
    differs (or_family q (or_family e.ordering e.substrings)) e ≡ false → AreOfFamily f e
unmixed_by f None e s h = absurd (none_some s)
unmixed_by f (Some g) e s h =
    let both = all_three (is_of_family g e.equality) (is_of_family g e.ordering) (is_of_family g e.substrings) h in
    subst (λ (x : Family). AreOfFamily x e) (some_same s) (record { ordering = both.0; substrings = both.1 })

unmixed : (f : Family) (e : Effect) → e.equality ≡ Some f → is_mixed e ≡ false → AreOfFamily f e
unmixed f e s h = unmixed_by f e.equality e s h

rule_in : Given → Family → Rule
rule_in g f = record { family = f; syntax = known_syntax g }

none_or : (g : Given) (f : Family) (o : Option Family) → is_of_family f o ≡ true → IsNoneOr (rule_in g f) (rule_on g o)
unfolding rule_in
none_or g f None h = tt
none_or g f (Some x) h = ap (rule_in g) (sym (same_family f x h))

offered_here : (offers : Family → Bool) (g : Given) (f x : Family) → f ≡ x → offers x ≡ true →
    of_family offers (Some (rule_in g f)) ≡ Some (rule_in g x)
unfolding rule_in
offered_here offers g f x s h = ap (λ b. cond b (Some (rule_in g f)) None) (ap offers s ∙ h)
    ∙ ap (λ y. Some (rule_in g y)) s

effective : (offers : Family → Bool) (g : Given) (f : Family) (o : Option Family) → is_of_family f o ≡ true →
    IsOffered offers o → beside (rule_on g o) (of_family offers (Some (rule_in g f))) ≡ rule_on g o
unfolding rule_in
effective offers g f None h k = refl
effective offers g f (Some x) h k = offered_here offers g f x (same_family f x h) k

one_family_by : (all : List DescriptionModel) (d : DescriptionModel) (e : Effect) (f : Family) → e.equality ≡ Some f →
    AreOfFamily f e → AreOffered e → IsOfOneFamily (type_with all d e)
unfolding rule_in
one_family_by all d e f q h k =
    let is : rule_on e.syntax e.equality ≡ Some (rule_in e.syntax f) = ap (rule_on e.syntax) q in
    record {
      rule = rule_in e.syntax f;
      equality = is;
      ordering = none_or e.syntax f e.ordering h.ordering;
      substrings = none_or e.syntax f e.substrings h.substrings;
      in_effect = record {
        ordering = ap (λ r. beside (rule_on e.syntax e.ordering) (of_family is_ordering r)) is
            ∙ effective is_ordering e.syntax f e.ordering h.ordering k.ordering;
        substrings = ap (λ r. beside (rule_on e.syntax e.substrings) (of_family has_substrings r)) is
            ∙ effective has_substrings e.syntax f e.substrings h.substrings k.substrings;
      };
    }

by_equality : (all : List DescriptionModel) (d : DescriptionModel) (e : Effect) (q : Option Family) → e.equality ≡ q →
    has_no_equality (Some (type_with all d e)) ≡ false → is_mixed e ≡ false → AreOffered e →
    IsOfOneFamily (type_with all d e)
by_equality all d e None s n h k = absurd (cc)
by_equality all d e (Some f) s n h k = one_family_by all d e f s (unmixed f e s h) k

one_family : (all : List DescriptionModel) (d : DescriptionModel) (i : ℕ) →
    has_no_equality (Some (type_with all d (effect_of all i))) ≡ false → is_unfit all i ≡ false →
    IsOfOneFamily (type_with all d (effect_of all i))
one_family all d i n h =
    by_equality all d (effect_of all i) (effect_of all i).equality refl n (not_left (is_mixed (effect_of all i))
    (has_lineage all i && lacks_syntax (effect_of all i)) h) (along_offered all i (lineage all i))

-- ---- of a text without faults

pub none_found : (test : ℕ → DescriptionModel → Bool) (k : ℕ) (ds : List DescriptionModel) (i : ℕ)
    (d : DescriptionModel) → first_of_types test k ds ≡ None → slice_get ds i ≡ Some d → test (k + i) d ≡ false
none_found test k [] i d h e = absurd (none_some e)
none_found test k (x ∷ ds) zero d h e =
    let here = none_bad_by (test k x) x.line (first_of_types test (k + 1) ds) h in
    let f : k + 0 ≡ k = omega arith in
    ap (λ n. test n d) f ∙ ap (test k) (sym (some_same e)) ∙ here.0
none_found test k (x ∷ ds) (suc i) d h e =
    let here = none_bad_by (test k x) x.line (first_of_types test (k + 1) ds) h in
    let f : k + suc i ≡ (k + 1) + i = omega arith in
    ap (λ n. test n d) f ∙ none_found test (k + 1) ds i d here.1 e

pub rest_none : (o : Option ℕ) (f : ℕ → SchemaError) (rest : Option SchemaError) → refused_at o f rest ≡ None →
    rest ≡ None
rest_none None f rest h = h
rest_none (Some n) f rest h = absurd (none_some (sym h))

pub at_low : {A : Type 0} (xs : List A) (i : ℕ) (x : A) → slice_get xs i ≡ Some x → i < length xs
at_low [] i x e = absurd (none_some e)
at_low (y ∷ xs) zero x e = omega arith
at_low (y ∷ xs) (suc i) x e = omega (arith, at_low xs i x e)

from_each : {A : Type 0} (P : A → Type 0) (xs : List A) → ((i : ℕ) (x : A) → slice_get xs i ≡ Some x → P x) →
    AllByRecursion P xs
from_each P [] h = tt
from_each P (x ∷ xs) h = (h 0 x refl, from_each P xs (λ i y e. h (suc i) y e))

-- what is known of each type of a text without faults
pub record IsSound (t : SchemaTextModel) : Type 0 where
  pub fit : (i : ℕ) (d : DescriptionModel) → slice_get t.types i ≡ Some d → is_unfit t.types i ≡ false
  pub equality : (i : ℕ) (d : DescriptionModel) → slice_get t.types i ≡ Some d →
      has_no_equality (slice_get (types_from t.types 0 t.types) i) ≡ false

pub sound : (t : SchemaTextModel) → fault_of t (schema_of t) ≡ None → IsSound t
sound t h =
    let bad : bad_line t ≡ None = refused_none (bad_line t) BadDescription (refused_at (unknown_of t (schema_of t))
    UnknownName (loop_fault t (schema_of t))) h in
    let types_bad : first_of_types (is_bad_type t) 0 t.types ≡ None = first_none (first_of_types (is_bad_type t) 0
    t.types) (first_of_all (is_repeated t.types t.classes) t.classes) (second_none t.bad _ bad) in
    let loops : loop_fault t (schema_of t) ≡ None = rest_none (unknown_of t (schema_of t)) UnknownName
    (loop_fault t (schema_of t)) (rest_none (bad_line t) BadDescription
    (refused_at (unknown_of t (schema_of t)) UnknownName (loop_fault t (schema_of t))) h) in
    let lacking : no_equality_line t (schema_of t) ≡ None = refused_none (no_equality_line t (schema_of t)) NoEquality
    None (rest_none (loop_line t (schema_of t)) LoopInSup (refused_at (no_equality_line t (schema_of t))
    NoEquality None) loops) in
    record {
      fit = λ i d e.
          let first : 0 + i ≡ i = omega arith in
          not_right (is_repeated t.types t.classes d) (is_unfit t.types i) (ap (λ n. is_bad_type t n d) (sym first)
          ∙ none_found (is_bad_type t) 0 t.types i d types_bad e);
      equality = λ i d e.
          let first : 0 + i ≡ i = omega arith in
          ap (λ n. has_no_equality (slice_get (types_from t.types 0 t.types) n)) (sym first)
          ∙ none_found (λ n x. has_no_equality (slice_get (types_from t.types 0 t.types) n)) 0 t.types i d lacking
          e;
    }

of_description : (t : SchemaTextModel) → IsSound t → (i : ℕ) (d : DescriptionModel) (m : TypeModel) →
    slice_get t.types i ≡ Some d → slice_get (types_from t.types 0 t.types) i ≡ Some m → IsOfOneFamily m
of_description t h i d m e is =
    let first : 0 + i ≡ i = omega arith in
    let at : slice_get (types_from t.types 0 t.types) i ≡ Some (type_with t.types d (effect_of t.types i)) =
    type_at t.types t.types 0 i d e ∙ ap (λ n. Some (type_with t.types d (effect_of t.types n))) first in
    subst IsOfOneFamily (some_same (sym at ∙ is)) (one_family t.types d i (ap has_no_equality (sym at)
    ∙ h.equality i d e) (h.fit i d e))

each_of_one_family : (t : SchemaTextModel) → IsSound t → AllByRecursion IsOfOneFamily (types_from t.types 0 t.types)
each_of_one_family t h =
    from_each IsOfOneFamily (types_from t.types 0 t.types) (λ i m e.
    let at = some_at t.types i
    (omega (arith, at_low (types_from t.types 0 t.types) i m e, count_types t.types 0 t.types)) in
    of_description t h i at.0 m at.1 e)

pub read_types_are_of_one_family : ReadTypesAreOfOneFamily
read_types_are_of_one_family text s h =
    let t = read_text text in
    let f = no_fault (schema_of t) s (fault_of t (schema_of t)) h in
    subst (λ (x : SchemaModel). AllByRecursion IsOfOneFamily x.types) f.1 (each_of_one_family t (sound t f.0))
