-- What follows where nothing is wrong with a text.
use Rattle.std.proofs.Common.{ℕ, ◌+◌, ◌<◌, zero, suc, List, [], ◌∷◌, Bool, true, false, cond, ◌&&◌, Option, None, Some, is_some, ◌≡◌, refl, ap, subst, ◌∙◌, length, map, nat_lt, arith, codes}
use Rattle.std.specs.List.{list_all, position_from, slice_get}
use Rattle.std.proofs.lemmas.List.{length-map}
use Rattle.std.proofs.lemmas.Bool.Decides.{nat_tests}
use Rattle.schema_meaning.specs.ldap_words.declared.rule.Rule.{Rule}
use Rattle.schema_meaning.specs.ldap_words.declared.rule.Family.{Family}
use Rattle.schema_meaning.specs.ldap_words.declared.rule.Family.TheVariants as family
use Rattle.schema_meaning.specs.ldap_words.declared.rule.Syntax.{Syntax}
use Rattle.schema_meaning.specs.ldap_words.declared.rule.Syntax.TheVariants as syntax
use Rattle.schema_meaning.specs.schema_text.Descriptions.{DescriptionModel}
use Rattle.schema_meaning.specs.schema_text.Texts.{SchemaTextModel}
use Rattle.schema_meaning.specs.Naming.{calls, find, superior_texts}
use Rattle.schema_meaning.specs.Faults.{first_of_types, earlier_of, earlier, bad_line}
use Rattle.ldap_schema.specs.Schema.{TypeModel, ClassModel, SchemaModel, IsLoopless}
use Rattle.ldap_schema.specs.Schema as schema
use Rattle.ldap_schema.specs.Superclasses.{has_known_superclasses, AreSuperclassesKnown}
use Rattle.ldap_schema.specs.ObjectClassType.{IsObjectClassType, identifier_rule}
use Rattle.schema_reader.specs.Described.{types_from, with_number, numbers_of, class_of}
use Rattle.schema_reader.specs.Reading.{is_identifier_on, is_identifier_rule, has_identifier_rule, object_class_found, object_class_in, required_in, is_type_looping, is_class_looping, loop_line, no_equality_line, refused_at, loop_fault, unknown_of, fault_of}
use Rattle.schema_reader.specs.declared.error.SchemaError.{SchemaError}
use Rattle.schema_reader.specs.declared.error.SchemaError.TheVariants.{BadDescription, UnknownName, LoopInSup, NoEquality}
use Rattle.schema_reader.proofs.Loops.{loopless_from}

false_true : false ≡ true → ⊥
false_true h = cc

some_none : {A : Type 0} {x : A} → Some x ≡ None → ⊥
some_none h = cc

none_some : {A : Type 0} {x : A} → None ≡ Some x → ⊥
none_some h = cc

refused_none : (o : Option ℕ) (f : ℕ → SchemaError) (rest : Option SchemaError) → refused_at o f rest ≡ None → o ≡ None
refused_none None f rest h = refl
refused_none (Some n) f rest h = absurd (some_none h)

refused_rest : (o : Option ℕ) (f : ℕ → SchemaError) (rest : Option SchemaError) → refused_at o f rest ≡ None →
    rest ≡ None
refused_rest None f rest h = h
refused_rest (Some n) f rest h = absurd (some_none h)

of_is_some : {P : Type 0} (n : ℕ) (b : Option ℕ) → earlier_of n b ≡ None → P
of_is_some n None h = absurd (some_none h)
of_is_some n (Some m) h = absurd (some_none h)

earlier_first : (a b : Option ℕ) → earlier a b ≡ None → a ≡ None
earlier_first None b h = refl
earlier_first (Some n) b h = of_is_some n b h

none_at : (b : Bool) (n : ℕ) (o : Option ℕ) → cond b (Some n) o ≡ None → b ≡ false
none_at true n o h = absurd (some_none h)
none_at false n o h = refl

none_behind : (b : Bool) (n : ℕ) (o : Option ℕ) → cond b (Some n) o ≡ None → o ≡ None
none_behind true n o h = absurd (some_none h)
none_behind false n o h = h

first_none : (f : ℕ → Bool) (t : ℕ) (ds : List DescriptionModel) → first_of_types (λ u d. f u) t ds ≡ None → (i : ℕ) →
    i < length ds → f (t + i) ≡ false
first_none f t [] h i lt = absurd (omega (arith, lt))
first_none f t (d ∷ ds) h zero lt = ap f (omega arith) ∙ none_at (f t) d.line _ h
first_none f t (d ∷ ds) h (suc i) lt = ap f (omega arith) ∙ first_none f (t + 1) ds (none_behind (f t) d.line _ h) i
    (omega (arith, lt))

count_types : (types : List DescriptionModel) (t : ℕ) (ds : List DescriptionModel) → length (types_from types t ds) ≡
    length ds
count_types types t [] = refl
count_types types t (d ∷ ds) = ap suc (count_types types (t + 1) ds)

pub loopless_of : (text : SchemaTextModel) (types : List TypeModel) (classes : List ClassModel) →
    types ≡ types_from text.types 0 text.types → fault_of text (record { types = types; classes = classes }) ≡ None →
    IsLoopless types
loopless_of text types classes e h =
    let rest : loop_fault text (record { types = types; classes = classes }) ≡ None =
    refused_rest (unknown_of text (record { types = types; classes = classes })) UnknownName _
    (refused_rest (bad_line text) BadDescription _ h) in
    let none : first_of_types (λ u d. is_type_looping types u) 0 text.types ≡ None =
    earlier_first _ (first_of_types (λ u d. is_class_looping classes u) 0 text.classes)
    (refused_none (loop_line text (record { types = types; classes = classes })) LoopInSup
    (refused_at (no_equality_line text (record { types = types; classes = classes })) NoEquality None) rest) in
    let same : length types ≡ length text.types = ap length e ∙ count_types text.types 0 text.types in
    loopless_from types (λ t lt. ap (is_type_looping types) (omega arith) ∙ first_none (is_type_looping types) 0
    text.types none t (omega (arith, lt, same)))

-- numbers that words call are numbers of descriptions
low_by : {K : Type 0} (p : K → Bool) (b : Bool) (k : ℕ) (x : K) (xs : List K) (i : ℕ) →
    cond b (Some k) (position_from p (k + 1) xs) ≡ Some i → (position_from p (k + 1) xs ≡ Some i →
    i < (k + 1) + length xs) → i < k + length (x ∷ xs)
low_by p true k x xs i e f = let s : k ≡ i = cc in omega (arith, s)
low_by p false k x xs i e f = omega (arith, f e)

found_low : {K : Type 0} (p : K → Bool) (k : ℕ) (xs : List K) (i : ℕ) → position_from p k xs ≡ Some i →
    i < k + length xs
found_low p k [] i h = absurd (none_some h)
found_low p k (x ∷ xs) i h = low_by p (p x) k x xs i h (λ e. found_low p (k + 1) xs i e)

low_with : (n : ℕ) (o : Option ℕ) (ns : List ℕ) → ((i : ℕ) → o ≡ Some i → i < n) → list_all (λ d. nat_lt d n) ns ≡
    true → list_all (λ d. nat_lt d n) (with_number o ns) ≡ true
low_with n None ns f h = h
low_with n (Some i) ns f h =
    let lt : i < n = f i refl in
    let e : nat_lt i n ≡ true = grind (arith, nat_tests, lt) in
    ap (λ (b : Bool). b && list_all (λ d. nat_lt d n) ns) e ∙ h

numbers_low : (ds : List DescriptionModel) (ws : List (List ℕ)) → list_all (λ d. nat_lt d (length ds))
    (numbers_of ds ws) ≡ true
numbers_low ds [] = refl
numbers_low ds (w ∷ ws) = low_with (length ds) (find ds w) (numbers_of ds ws)
    (λ i e. omega (arith, found_low (calls w) 0 ds i e)) (numbers_low ds ws)

all_known : (text : SchemaTextModel) (cs : List DescriptionModel) (n : ℕ) → n ≡ length text.classes →
    list_all (has_known_superclasses n) (map (class_of text) cs) ≡ true
all_known text [] n e = refl
all_known text (c ∷ cs) n e =
    ap (λ (b : Bool). b && list_all (has_known_superclasses n) (map (class_of text) cs))
    (ap (λ (m : ℕ). list_all (λ d. nat_lt d m) (numbers_of text.classes (superior_texts c))) e
    ∙ numbers_low text.classes (superior_texts c))
    ∙ all_known text cs n e

pub known_of : (text : SchemaTextModel) (classes : List ClassModel) → classes ≡ map (class_of text) text.classes →
    AreSuperclassesKnown classes
known_of text classes e =
    ap (list_all (has_known_superclasses (length classes))) e ∙ all_known text text.classes (length classes)
    (ap length e ∙ length-map text.classes (class_of text))

-- the type objectClass
pair_is : (s : Syntax) (f : Family) → is_identifier_on s f ≡ true → s ≡ syntax.ObjectIdentifier
pair_is syntax.ObjectIdentifier f h = refl
pair_is s f h = absurd (false_true h)

family_is : (s : Syntax) (f : Family) → is_identifier_on s f ≡ true → f ≡ family.Identifier
family_is s family.Identifier h = refl
family_is syntax.ObjectIdentifier f h = absurd (false_true h)
family_is s f h = absurd (false_true h)

made : Family → Syntax → Rule
made f s = record { family = f; syntax = s }

rule_is : (r : Option Rule) → is_identifier_rule r ≡ true → r ≡ Some identifier_rule
unfolding made
rule_is None h = absurd (false_true h)
rule_is (Some r) h = ap (λ (f : Family). Some (made f r.syntax)) (family_is r.syntax r.family h)
    ∙ ap (λ (s : Syntax). Some (made family.Identifier s)) (pair_is r.syntax r.family h)

described_by : (m : SchemaModel) (t : ℕ) (o : Option TypeModel) → slice_get m.types t ≡ o → has_identifier_rule o ≡
    true → schema.find m (codes "objectClass") ≡ Some t → IsObjectClassType m t
described_by m t None e h f = absurd (false_true h)
described_by m t (Some d) e h f = record { called = f; description = d; is = e; rule = rule_is d.equality h }

checked : (b : Bool) (t u : ℕ) → cond b (Some t) None ≡ Some u → t ≡ u
checked true t u h = cc
checked false t u h = absurd (none_some h)

checked_true : (b : Bool) (t u : ℕ) → cond b (Some t) None ≡ Some u → b ≡ true
checked_true true t u h = refl
checked_true false t u h = absurd (none_some h)

found_by : (m : SchemaModel) (o : Option ℕ) (t : ℕ) → schema.find m (codes "objectClass") ≡ o →
    object_class_found m.types o ≡ Some t → IsObjectClassType m t
found_by m None t e h = absurd (none_some h)
found_by m (Some u) t e h =
    let same : u ≡ t = checked (has_identifier_rule (slice_get m.types u)) u t h in
    let ok : has_identifier_rule (slice_get m.types u) ≡ true = checked_true
    (has_identifier_rule (slice_get m.types u)) u t h in
    subst (IsObjectClassType m) same (described_by m u (slice_get m.types u) refl ok e)

with_top : (b : Bool) (o : Option ℕ) (t : ℕ) → cond b o None ≡ Some t → o ≡ Some t
with_top true o t h = h
with_top false o t h = absurd (none_some h)

pub object_class_of : (m : SchemaModel) (t : ℕ) → required_in m ≡ Some t → IsObjectClassType m t
object_class_of m t h = found_by m (schema.find m (codes "objectClass")) t refl
    (with_top (is_some (schema.class_named m (codes "top"))) (object_class_in m.types) t h)

-- the schema of these types and classes
abbrev pub model : List TypeModel → List ClassModel → SchemaModel
model types classes = record { types = types; classes = classes }

pub same_model : {B : Type 0} (f : SchemaModel → B) {ts us : List TypeModel} {cs ds : List ClassModel} → ts ≡ us →
    cs ≡ ds → f (model ts cs) ≡ f (model us ds)
same_model f {ts} {us} {cs} {ds} e d = ap (λ (x : List TypeModel). f (model x cs)) e
    ∙ ap (λ (x : List ClassModel). f (model us x)) d
