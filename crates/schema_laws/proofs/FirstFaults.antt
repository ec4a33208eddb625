-- The first line with a fault: E12, E13 and E15.
use Rattle.std.proofs.Common.{ℕ, ◌+◌, ◌≤◌, zero, suc, List, [], ◌∷◌, Bool, true, false, cond, not, ◌&&◌, ◌||◌, Option, None, Some, Err, is_some, nat_lt, ◌≡◌, ◌⊎◌, inl, inr, refl, sym, ap, ◌∙◌, subst, slice_get, arith}
use Rattle.ldap_match.specs.ldap_words.declared.rule.Family.{Family}
use Rattle.schema_reader.specs.schema_text.Descriptions.{DescriptionModel, first_text_at, texts_at}
use Rattle.schema_reader.specs.schema_text.Texts.{SchemaTextModel, read_text}
use Rattle.schema_reader.specs.schema_meaning.ldap_words.RulesByName.{equality_family, ordering_family, substrings_family, syntax_of}
use Rattle.schema_reader.specs.schema_meaning.Naming.{superior_text, superior_texts, superior_of, find, found_by, is_repeated}
use Rattle.schema_reader.specs.schema_meaning.Inheriting.{own, or_family, family_by, is_unfit, effect_of}
use Rattle.schema_reader.specs.schema_meaning.Faults.{is_bad_type, first_of_types, first_of_all, earlier, bad_line, is_known_by, names_known_type, are_known, names_known_class, unknown_line}
use Rattle.schema_reader.specs.schema_meaning.declared.inheriting.Effect.{Effect}
use Rattle.schema_reader.specs.schema_meaning.declared.inheriting.Given.{Given}
use Rattle.schema_reader.specs.Described.{rule_on, schema_of}
use Rattle.schema_reader.specs.Reading.{required_in, line_unless, missing_line, has_no_equality, loop_line, no_equality_line, refused_at, loop_fault, unknown_of, fault_of, schema_of_text}
use Rattle.schema_reader.specs.declared.error.SchemaError.{SchemaError}
use Rattle.schema_reader.specs.declared.error.SchemaError.TheVariants.{BadDescription, UnknownName, LoopInSup, NoEquality}
use Rattle.ldap_dn.proofs.Spelled.{none_some, some_same}
use Rattle.schema_laws.specs.Chains.{IsInEffect, has_no_superior, is_below}
use Rattle.schema_laws.specs.FirstFaults.{IsBadIn, is_no_description, type_repeats, type_is_unfit, class_repeats, RefusedAtFirstBadLine, NamesUnknown, no_such_superior, no_such_equality, no_such_ordering, no_such_substrings, no_such_syntax, CallsNone, ClassNamesUnknown, no_such_superclass, no_such_required, no_such_allowed, HasUnknownIn, in_a_type, in_a_class, is_incomplete, RefusedAtFirstUnknown, HasEquality, has_its_own, inherits_one, RefusedAtFirstLack}
use Rattle.schema_laws.proofs.Joined.{left_true, right_true}
use Rattle.schema_laws.proofs.SoundTexts.{AreRising, text_is_sound, classes_are_sound}
use Rattle.schema_laws.proofs.FirstFound.{first_none, dot_by as right_or}
use Rattle.schema_laws.proofs.FirstLoops.{false_true, IsFoundAt, found, not_before, one_of, lower, no_later_one, no_later_two, refused_is, other}
use Rattle.schema_laws.proofs.InEffect.{IsChained, chained_by, none_of_all, not_not, found_effect}
use Rattle.schema_laws.proofs.Looped.{type_is}

-- ---- the first description that a test finds

as_types : (test : DescriptionModel → Bool) (k : ℕ) (ds : List DescriptionModel) → first_of_types (λ t d. test d) k
    ds ≡ first_of_all test ds
as_types test k [] = refl
as_types test k (d ∷ ds) = ap (λ (o : Option ℕ). cond (test d) (Some d.line) o) (as_types test (k + 1) ds)

found_of_all : (test : DescriptionModel → Bool) (ds : List DescriptionModel) (n : ℕ) → first_of_all test ds ≡ Some n →
    IsFoundAt (λ t d. test d) 0 ds n
found_of_all test ds n h = found (λ t d. test d) 0 ds n (as_types test 0 ds ∙ h)

not_before_all : (test : DescriptionModel → Bool) (ds : List DescriptionModel) (n : ℕ) → AreRising ds →
    ((m : ℕ) → first_of_all test ds ≡ Some m → n ≤ m) → (j : ℕ) (e : DescriptionModel) → slice_get ds j ≡ Some e →
    test e ≡ true → n ≤ e.line
not_before_all test ds n r le j e at passes = not_before (λ t d. test d) ds (first_of_all test ds) n r
    (as_types test 0 ds) le j e at passes

-- ---- the earlier one of three lines

inner_one : (x a b : Option ℕ) (n k : ℕ) → earlier x (earlier a b) ≡ Some n → a ≡ Some k → n ≤ k
inner_one x None b n k h e = absurd (none_some e)
inner_one x (Some y) None n k h e =
    let s : y ≡ k = some_same e in
    let l : n ≤ y = no_later_two x (Some y) n y h refl in
    omega (arith, s, l)
inner_one x (Some y) (Some m) n k h e =
    let s : y ≡ k = some_same e in
    let l : n ≤ cond (nat_lt m y) m y = no_later_two x (Some (cond (nat_lt m y) m y)) n (cond (nat_lt m y) m y) h refl
    in
    let f : cond (nat_lt m y) m y ≤ y = (lower (nat_lt m y) m y (cond (nat_lt m y) m y) refl refl).0 in
    omega (arith, s, l, f)

inner_two : (x a b : Option ℕ) (n k : ℕ) → earlier x (earlier a b) ≡ Some n → b ≡ Some k → n ≤ k
inner_two x None b n k h e = no_later_two x b n k h e
inner_two x (Some y) None n k h e = absurd (none_some e)
inner_two x (Some y) (Some m) n k h e =
    let s : m ≡ k = some_same e in
    let l : n ≤ cond (nat_lt m y) m y = no_later_two x (Some (cond (nat_lt m y) m y)) n (cond (nat_lt m y) m y) h refl
    in
    let f : cond (nat_lt m y) m y ≤ m = (lower (nat_lt m y) m y (cond (nat_lt m y) m y) refl refl).1 in
    omega (arith, s, l, f)

outer_one : (a b x : Option ℕ) (n k : ℕ) → earlier (earlier a b) x ≡ Some n → a ≡ Some k → n ≤ k
outer_one None b x n k h e = absurd (none_some e)
outer_one (Some y) None x n k h e =
    let s : y ≡ k = some_same e in
    let l : n ≤ y = no_later_one (Some y) x n y h refl in
    omega (arith, s, l)
outer_one (Some y) (Some m) x n k h e =
    let s : y ≡ k = some_same e in
    let l : n ≤ cond (nat_lt m y) m y = no_later_one (Some (cond (nat_lt m y) m y)) x n (cond (nat_lt m y) m y) h refl
    in
    let f : cond (nat_lt m y) m y ≤ y = (lower (nat_lt m y) m y (cond (nat_lt m y) m y) refl refl).0 in
    omega (arith, s, l, f)

outer_two : (a b x : Option ℕ) (n k : ℕ) → earlier (earlier a b) x ≡ Some n → b ≡ Some k → n ≤ k
outer_two None b x n k h e = no_later_one b x n k h e
outer_two (Some y) None x n k h e = absurd (none_some e)
outer_two (Some y) (Some m) x n k h e =
    let s : m ≡ k = some_same e in
    let l : n ≤ cond (nat_lt m y) m y = no_later_one (Some (cond (nat_lt m y) m y)) x n (cond (nat_lt m y) m y) h refl
    in
    let f : cond (nat_lt m y) m y ≤ m = (lower (nat_lt m y) m y (cond (nat_lt m y) m y) refl refl).1 in
    omega (arith, s, l, f)

-- ---- the refusal

other_none : (o : Option ℕ) (f : ℕ → SchemaError) (rest : Option SchemaError) (e : SchemaError) →
    ((n : ℕ) → f n ≡ e → ⊥) → refused_at o f rest ≡ Some e → o ≡ None
other_none None f rest e differ h = refl
other_none (Some n) f rest e differ h = absurd (differ n (some_same h))

never : (o : Option ℕ) (f : ℕ → SchemaError) (rest : Option SchemaError) (e : SchemaError) → ((n : ℕ) → f n ≡ e → ⊥) →
    (rest ≡ Some e → ⊥) → refused_at o f rest ≡ Some e → ⊥
never None f rest e differ no_later h = no_later h
never (Some n) f rest e differ no_later h = differ n (some_same h)

mine : (o : Option ℕ) (f : ℕ → SchemaError) (rest : Option SchemaError) (n : ℕ) → ((m : ℕ) → f m ≡ f n → m ≡ n) →
    (rest ≡ Some (f n) → ⊥) → refused_at o f rest ≡ Some (f n) → o ≡ Some n
mine None f rest n one no_later h = absurd (no_later h)
mine (Some m) f rest n one no_later h = ap Some (one m (some_same h))

fault_is : (text : List ℕ) (e : SchemaError) → schema_of_text text ≡ Err e → fault_of (read_text text)
    (schema_of (read_text text)) ≡ Some e
fault_is text e h = refused_is (schema_of (read_text text)) (fault_of (read_text text) (schema_of (read_text text))) e h

-- ---- E12

bad_is : (text : List ℕ) (n : ℕ) → schema_of_text text ≡ Err (BadDescription n) → bad_line (read_text text) ≡ Some n
bad_is text n h =
    let t = read_text text in
    let s = schema_of t in
    mine (bad_line t) BadDescription (refused_at (unknown_of t s) UnknownName (loop_fault t s)) n (λ m e. cc)
    (never (unknown_of t s) UnknownName (loop_fault t s) (BadDescription n) (λ m e. cc)
    (never (loop_line t s) LoopInSup (refused_at (no_equality_line t s) NoEquality None) (BadDescription n) (λ m e. cc)
    (never (no_equality_line t s) NoEquality None (BadDescription n) (λ m e. cc) none_some)))
    (fault_is text (BadDescription n) h)

bad_type_by : (t : SchemaTextModel) (i : ℕ) (d : DescriptionModel) (n : ℕ) → slice_get t.types i ≡ Some d →
    d.line ≡ n → (a b : Bool) → is_repeated t.types t.classes d ≡ a → is_unfit t.types i ≡ b → (a || b) ≡ true →
    IsBadIn t n
bad_type_by t i d n at line true b e f h = type_repeats i d at line e
bad_type_by t i d n at line false b e f h = type_is_unfit i d at line (f ∙ h)

left_or : (a b : Bool) → a ≡ true → (a || b) ≡ true
left_or true b h = refl
left_or false b h = absurd (false_true h)

bad_at : (t : SchemaTextModel) (n : ℕ) → (t.bad ≡ Some n) ⊎ ((first_of_types (is_bad_type t) 0 t.types ≡ Some n)
    ⊎ (first_of_all (is_repeated t.types t.classes) t.classes ≡ Some n)) → IsBadIn t n
bad_at t n (inl e) = is_no_description e
bad_at t n (inr (inl e)) =
    let f = found (is_bad_type t) 0 t.types n e in
    let same : 0 + f.i ≡ f.i = omega arith in
    bad_type_by t f.i f.d n f.at f.line (is_repeated t.types t.classes f.d) (is_unfit t.types f.i) refl refl
    (ap (λ m. is_bad_type t m f.d) (sym same) ∙ f.passes)
bad_at t n (inr (inr e)) =
    let f = found_of_all (is_repeated t.types t.classes) t.classes n e in
    class_repeats f.i f.d f.at f.line f.passes

split : (a b : Option ℕ) (n : ℕ) {P : Type 0} → (P ⊎ (earlier a b ≡ Some n)) → P ⊎ ((a ≡ Some n) ⊎ (b ≡ Some n))
split a b n (inl p) = inl p
split a b n (inr e) = inr (one_of a b n e)

bad_first : (text : List ℕ) (n : ℕ) → bad_line (read_text text) ≡ Some n → {m : ℕ} → IsBadIn (read_text text) m → n ≤ m
bad_first text n h {m} (is_no_description e) =
    let t = read_text text in
    no_later_one t.bad (earlier (first_of_types (is_bad_type t) 0 t.types)
    (first_of_all (is_repeated t.types t.classes) t.classes)) n m h e
bad_first text n h (type_repeats i d at line r) =
    let t = read_text text in
    let types = first_of_types (is_bad_type t) 0 t.types in
    let classes = first_of_all (is_repeated t.types t.classes) t.classes in
    let le : n ≤ d.line = not_before (is_bad_type t) t.types types n (text_is_sound text).are_sound.rising refl
    (λ k e. inner_one t.bad types classes n k h e) i d at (left_or (is_repeated t.types t.classes d)
    (is_unfit t.types i) r) in
    omega (arith, le, line)
bad_first text n h (type_is_unfit i d at line r) =
    let t = read_text text in
    let types = first_of_types (is_bad_type t) 0 t.types in
    let classes = first_of_all (is_repeated t.types t.classes) t.classes in
    let le : n ≤ d.line = not_before (is_bad_type t) t.types types n (text_is_sound text).are_sound.rising refl
    (λ k e. inner_one t.bad types classes n k h e) i d at (right_or (is_repeated t.types t.classes d)
    (is_unfit t.types i) r) in
    omega (arith, le, line)
bad_first text n h (class_repeats i d at line r) =
    let t = read_text text in
    let types = first_of_types (is_bad_type t) 0 t.types in
    let classes = first_of_all (is_repeated t.types t.classes) t.classes in
    let le : n ≤ d.line = not_before_all (is_repeated t.types t.classes) t.classes n
    (classes_are_sound text).are_sound.rising (λ k e. inner_two t.bad types classes n k h e) i d at r in
    omega (arith, le, line)

pub refused_at_first_bad_line : RefusedAtFirstBadLine
refused_at_first_bad_line text n h =
    let t = read_text text in
    let types = first_of_types (is_bad_type t) 0 t.types in
    let classes = first_of_all (is_repeated t.types t.classes) t.classes in
    let is = bad_is text n h in
    record {
      here = bad_at t n (split types classes n (one_of t.bad (earlier types classes) n is));
      is_first = λ m b. bad_first text n is b;
    }

-- ---- what is not known

record IsUnknownWord {A : Type 0} (f : List ℕ → Option A) (o : Option (List ℕ)) : Type 0 where
  word : List ℕ
  said : o ≡ Some word
  none : f word ≡ None

is_none : {A : Type 0} (o : Option A) → is_some o ≡ false → o ≡ None
is_none None h = refl
is_none (Some x) h = absurd (false_true (sym h))

unknown_word : {A : Type 0} (f : List ℕ → Option A) (o : Option (List ℕ)) → is_known_by f o ≡ false → IsUnknownWord f o
unknown_word f None h = absurd (false_true (sym h))
unknown_word f (Some w) h = record { word = w; said = refl; none = is_none (f w) h }

no_unknown : {A : Type 0} (f : List ℕ → Option A) (o : Option (List ℕ)) (w : List ℕ) → o ≡ Some w → f w ≡ None →
    is_known_by f o ≡ true → ⊥
no_unknown f o w said none h = false_true (sym (ap is_some none) ∙ sym (ap (is_known_by f) said) ∙ h)

not_false : (b : Bool) → (b ≡ true → ⊥) → not b ≡ true
not_false true f = absurd (f refl)
not_false false f = refl

was_false : (b : Bool) → not b ≡ true → b ≡ false
was_false true h = absurd (false_true h)
was_false false h = refl

one_fails : {P : Type 0} (a b c d e : Bool) → (a && b && c && d && e) ≡ false → (a ≡ false → P) → (b ≡ false → P) →
    (c ≡ false → P) → (d ≡ false → P) → (e ≡ false → P) → P
one_fails false b c d e h fa fb fc fd fe = fa refl
one_fails true false c d e h fa fb fc fd fe = fb refl
one_fails true true false d e h fa fb fc fd fe = fc refl
one_fails true true true false e h fa fb fc fd fe = fd refl
one_fails true true true true false h fa fb fc fd fe = fe refl
one_fails true true true true true h fa fb fc fd fe = absurd (false_true (sym h))

type_unknown : (types : List DescriptionModel) (d : DescriptionModel) → names_known_type types d ≡ false →
    NamesUnknown types d
type_unknown types d h =
    one_fails (is_known_by (find types) (superior_text d)) (is_known_by equality_family (first_text_at 5 d.fields))
    (is_known_by ordering_family (first_text_at 6 d.fields)) (is_known_by substrings_family
    (first_text_at 7 d.fields)) (is_known_by syntax_of (first_text_at 8 d.fields)) h
    (λ f. let u = unknown_word (find types) (superior_text d) f in no_such_superior u.word u.said u.none)
    (λ f. let u = unknown_word equality_family (first_text_at 5 d.fields) f in no_such_equality u.word u.said u.none)
    (λ f. let u = unknown_word ordering_family (first_text_at 6 d.fields) f in no_such_ordering u.word u.said u.none)
    (λ f. let u = unknown_word substrings_family (first_text_at 7 d.fields) f in no_such_substrings u.word u.said
    u.none)
    (λ f. let u = unknown_word syntax_of (first_text_at 8 d.fields) f in no_such_syntax u.word u.said u.none)

first_of_five : (a b c d e : Bool) → (a && b && c && d && e) ≡ true → a ≡ true
first_of_five a b c d e h = left_true a b
    (left_true (a && b) c (left_true (a && b && c) d (left_true (a && b && c && d) e h)))

second_of_five : (a b c d e : Bool) → (a && b && c && d && e) ≡ true → b ≡ true
second_of_five a b c d e h = right_true a b
    (left_true (a && b) c (left_true (a && b && c) d (left_true (a && b && c && d) e h)))

third_of_five : (a b c d e : Bool) → (a && b && c && d && e) ≡ true → c ≡ true
third_of_five a b c d e h = right_true (a && b) c (left_true (a && b && c) d (left_true (a && b && c && d) e h))

fourth_of_five : (a b c d e : Bool) → (a && b && c && d && e) ≡ true → d ≡ true
fourth_of_five a b c d e h = right_true (a && b && c) d (left_true (a && b && c && d) e h)

no_unknown_type : (types : List DescriptionModel) (d : DescriptionModel) → NamesUnknown types d →
    names_known_type types d ≡ true → ⊥
no_unknown_type types d u h = by (is_known_by (find types) (superior_text d))
    (is_known_by equality_family (first_text_at 5 d.fields)) (is_known_by ordering_family (first_text_at 6 d.fields))
    (is_known_by substrings_family (first_text_at 7 d.fields)) (is_known_by syntax_of (first_text_at 8 d.fields)) refl
    refl refl refl refl h u
  where
    by : (a b c e f : Bool) → is_known_by (find types) (superior_text d) ≡ a → is_known_by equality_family
        (first_text_at 5 d.fields) ≡ b → is_known_by ordering_family (first_text_at 6 d.fields) ≡ c →
        is_known_by substrings_family (first_text_at 7 d.fields) ≡ e →
        is_known_by syntax_of (first_text_at 8 d.fields) ≡ f → (a && b && c && e && f) ≡ true → NamesUnknown types d → ⊥
    by a b c e f ka kb kc ke kf k (no_such_superior w said none) = no_unknown (find types) (superior_text d) w said
        none (ka ∙ first_of_five a b c e f k)
    by a b c e f ka kb kc ke kf k (no_such_equality w said none) = no_unknown equality_family
        (first_text_at 5 d.fields) w said none (kb ∙ second_of_five a b c e f k)
    by a b c e f ka kb kc ke kf k (no_such_ordering w said none) = no_unknown ordering_family
        (first_text_at 6 d.fields) w said none (kc ∙ third_of_five a b c e f k)
    by a b c e f ka kb kc ke kf k (no_such_substrings w said none) = no_unknown substrings_family
        (first_text_at 7 d.fields) w said none (ke ∙ fourth_of_five a b c e f k)
    by a b c e f ka kb kc ke kf k (no_such_syntax w said none) = no_unknown syntax_of (first_text_at 8 d.fields) w
        said none (kf ∙ right_true (a && b && c && e) f k)

further : (ds : List DescriptionModel) (w : List ℕ) (ws : List (List ℕ)) → CallsNone ds ws → CallsNone ds (w ∷ ws)
further ds w ws u = record { place = suc u.place; word = u.word; at = u.at; none = u.none }

calls_none : (ds : List DescriptionModel) (ws : List (List ℕ)) → are_known ds ws ≡ false → CallsNone ds ws
calls_none ds [] h = absurd (false_true (sym h))
calls_none ds (w ∷ ws) h = by (is_some (find ds w)) refl h (calls_none ds ws)
  where
    by : (b : Bool) → is_some (find ds w) ≡ b → (b && are_known ds ws) ≡ false →
        (are_known ds ws ≡ false → CallsNone ds ws) → CallsNone ds (w ∷ ws)
    by true e k later = further ds w ws (later k)
    by false e k later = record { place = 0; word = w; at = refl; none = is_none (find ds w) e }

all_called : (ds : List DescriptionModel) (ws : List (List ℕ)) (i : ℕ) (w : List ℕ) → slice_get ws i ≡ Some w →
    find ds w ≡ None → are_known ds ws ≡ true → ⊥
all_called ds [] i w at none h = none_some at
all_called ds (x ∷ ws) zero w at none h =
    false_true (sym (ap is_some none) ∙ sym (ap (λ (v : List ℕ). is_some (find ds v)) (some_same at))
    ∙ left_true (is_some (find ds x)) (are_known ds ws) h)
all_called ds (x ∷ ws) (suc i) w at none h = all_called ds ws i w at none (right_true (is_some (find ds x))
    (are_known ds ws) h)

class_unknown : (t : SchemaTextModel) (d : DescriptionModel) → names_known_class t d ≡ false → ClassNamesUnknown t d
class_unknown t d h = by (are_known t.classes (superior_texts d)) (are_known t.types (texts_at 12 d.fields))
    (are_known t.types (texts_at 13 d.fields)) refl refl refl h
  where
    by : (a b c : Bool) → are_known t.classes (superior_texts d) ≡ a → are_known t.types (texts_at 12 d.fields) ≡ b →
        are_known t.types (texts_at 13 d.fields) ≡ c → (a && b && c) ≡ false → ClassNamesUnknown t d
    by false b c ka kb kc k = no_such_superclass (calls_none t.classes (superior_texts d) ka)
    by true false c ka kb kc k = no_such_required (calls_none t.types (texts_at 12 d.fields) kb)
    by true true c ka kb kc k = no_such_allowed (calls_none t.types (texts_at 13 d.fields) (kc ∙ k))

no_unknown_class : (t : SchemaTextModel) (d : DescriptionModel) → ClassNamesUnknown t d → names_known_class t d ≡
    true → ⊥
no_unknown_class t d (no_such_superclass u) h =
    all_called t.classes (superior_texts d) u.place u.word u.at u.none
    (left_true (are_known t.classes (superior_texts d)) (are_known t.types (texts_at 12 d.fields))
    (left_true (are_known t.classes (superior_texts d) && are_known t.types (texts_at 12 d.fields))
    (are_known t.types (texts_at 13 d.fields)) h))
no_unknown_class t d (no_such_required u) h =
    all_called t.types (texts_at 12 d.fields) u.place u.word u.at u.none
    (right_true (are_known t.classes (superior_texts d)) (are_known t.types (texts_at 12 d.fields))
    (left_true (are_known t.classes (superior_texts d) && are_known t.types (texts_at 12 d.fields))
    (are_known t.types (texts_at 13 d.fields)) h))
no_unknown_class t d (no_such_allowed u) h =
    all_called t.types (texts_at 13 d.fields) u.place u.word u.at u.none
    (right_true (are_known t.classes (superior_texts d) && are_known t.types (texts_at 12 d.fields))
    (are_known t.types (texts_at 13 d.fields)) h)

-- ---- E13

abbrev type_fails : SchemaTextModel → DescriptionModel → Bool
type_fails t d = not (names_known_type t.types d)

abbrev class_fails : SchemaTextModel → DescriptionModel → Bool
class_fails t d = not (names_known_class t d)

unknown_is : (text : List ℕ) (n : ℕ) → schema_of_text text ≡ Err (UnknownName n) → unknown_of (read_text text)
    (schema_of (read_text text)) ≡ Some n
unknown_is text n h =
    let t = read_text text in
    let s = schema_of t in
    mine (unknown_of t s) UnknownName (loop_fault t s) n (λ m e. cc)
    (never (loop_line t s) LoopInSup (refused_at (no_equality_line t s) NoEquality None) (UnknownName n) (λ m e. cc)
    (never (no_equality_line t s) NoEquality None (UnknownName n) (λ m e. cc) none_some))
    (other (bad_line t) BadDescription (refused_at (unknown_of t s) UnknownName (loop_fault t s)) (UnknownName n)
    (λ m e. cc) (fault_is text (UnknownName n) h))

unless_is : (behind n : ℕ) (o : Option ℕ) → line_unless behind o ≡ Some n → (behind ≡ n) × (o ≡ None)
unless_is behind n None h = (some_same h, refl)
unless_is behind n (Some x) h = absurd (none_some h)

unless_none : (behind : ℕ) (o : Option ℕ) → o ≡ None → line_unless behind o ≡ Some behind
unless_none behind o h = ap (line_unless behind) h

unknown_by : (t : SchemaTextModel) (n : ℕ) → (first_of_all (type_fails t) t.types ≡ Some n)
    ⊎ (first_of_all (class_fails t) t.classes ≡ Some n) → HasUnknownIn t n
unknown_by t n (inl e) =
    let f = found_of_all (type_fails t) t.types n e in
    in_a_type f.i f.d f.at f.line (type_unknown t.types f.d (was_false (names_known_type t.types f.d) f.passes))
unknown_by t n (inr e) =
    let f = found_of_all (class_fails t) t.classes n e in
    in_a_class f.i f.d f.at f.line (class_unknown t f.d (was_false (names_known_class t f.d) f.passes))

unknown_at : (t : SchemaTextModel) (n : ℕ) → (unknown_line t ≡ Some n)
    ⊎ (missing_line t.behind (schema_of t) ≡ Some n) → HasUnknownIn t n
unknown_at t n (inl e) = unknown_by t n (one_of (first_of_all (type_fails t) t.types)
    (first_of_all (class_fails t) t.classes) n e)
unknown_at t n (inr e) = let u = unless_is t.behind n (required_in (schema_of t)) e in is_incomplete u.0 u.1

unknown_first : (text : List ℕ) (n : ℕ) → unknown_of (read_text text) (schema_of (read_text text)) ≡ Some n →
    {m : ℕ} → HasUnknownIn (read_text text) m → n ≤ m
unknown_first text n h (in_a_type i d at line u) =
    let t = read_text text in
    let types = first_of_all (type_fails t) t.types in
    let classes = first_of_all (class_fails t) t.classes in
    let missing = missing_line t.behind (schema_of t) in
    let le : n ≤ d.line = not_before_all (type_fails t) t.types n (text_is_sound text).are_sound.rising
    (λ k e. outer_one types classes missing n k h e) i d at (not_false (names_known_type t.types d)
    (no_unknown_type t.types d u)) in
    omega (arith, le, line)
unknown_first text n h (in_a_class i d at line u) =
    let t = read_text text in
    let types = first_of_all (type_fails t) t.types in
    let classes = first_of_all (class_fails t) t.classes in
    let missing = missing_line t.behind (schema_of t) in
    let le : n ≤ d.line = not_before_all (class_fails t) t.classes n (classes_are_sound text).are_sound.rising
    (λ k e. outer_two types classes missing n k h e) i d at (not_false (names_known_class t d)
    (no_unknown_class t d u)) in
    omega (arith, le, line)
unknown_first text n h (is_incomplete line none) =
    let t = read_text text in
    let le : n ≤ t.behind = no_later_two (unknown_line t) (missing_line t.behind (schema_of t)) n t.behind h
    (unless_none t.behind (required_in (schema_of t)) none) in
    omega (arith, le, line)

pub refused_at_first_unknown : RefusedAtFirstUnknown
refused_at_first_unknown text n h =
    let t = read_text text in
    let is = unknown_is text n h in
    record {
      here = unknown_at t n (one_of (unknown_line t) (missing_line t.behind (schema_of t)) n is);
      is_first = λ m b. unknown_first text n is b;
    }

-- ---- an EQUALITY rule, own or inherited

equality_by : (all : List DescriptionModel) {t : ℕ} (d : DescriptionModel) → slice_get all t ≡ Some d →
    (above : Option Family) → (is_some above ≡ true → HasEquality all t) → (o : Option (List ℕ)) →
    first_text_at 5 d.fields ≡ o → is_some (or_family (family_by equality_family o) above) ≡ true → HasEquality all t
equality_by all d at above up None e h = up h
equality_by all d at above up (Some w) e h = has_its_own d w at e

own_equality : (all : List DescriptionModel) {t : ℕ} (d : DescriptionModel) → slice_get all t ≡ Some d →
    (o : Option (List ℕ)) → first_text_at 5 d.fields ≡ o → is_some (family_by equality_family o) ≡ true →
    HasEquality all t
own_equality all d at None e h = absurd (false_true h)
own_equality all d at (Some w) e h = has_its_own d w at e

-- what has a rule in effect has one
has_one : (all : List DescriptionModel) {t : ℕ} {e : Effect} → IsInEffect all t e → is_some e.equality ≡ true →
    HasEquality all t
has_one all (has_no_superior d at h) p = own_equality all d at (first_text_at 5 d.fields) refl p
has_one all (is_below {above = above} d u at k higher) p =
    equality_by all d at above.equality (λ q. inherits_one d u at k (has_one all higher q)) (first_text_at 5 d.fields)
    refl p

or_left : (f g : Option Family) → is_some f ≡ true → is_some (or_family f g) ≡ true
or_left None g h = absurd (false_true h)
or_left (Some x) g h = refl

or_right : (f g : Option Family) → is_some g ≡ true → is_some (or_family f g) ≡ true
or_right None g h = h
or_right (Some x) g h = refl

own_on : (all : List DescriptionModel) {t : ℕ} {e : Effect} (d : DescriptionModel) → slice_get all t ≡ Some d →
    is_some (own d).equality ≡ true → IsInEffect all t e → is_some e.equality ≡ true
own_on all d i s (has_no_superior x j h) = subst (λ (y : DescriptionModel). is_some (own y).equality ≡ true)
    (some_same (sym i ∙ j)) s
own_on all d i s (is_below {above = g} x v j k higher) =
    or_left (own x).equality g.equality (subst (λ (y : DescriptionModel). is_some (own y).equality ≡ true)
    (some_same (sym i ∙ j)) s)

up_on : (all : List DescriptionModel) {t : ℕ} {e : Effect} (d : DescriptionModel) (u : ℕ) → slice_get all t ≡ Some d →
    superior_of all d ≡ Some u → ((g : Effect) → IsInEffect all u g → is_some g.equality ≡ true) →
    IsInEffect all t e → is_some e.equality ≡ true
up_on all d u i k up (has_no_superior x j h) =
    let same : d ≡ x = some_same (sym i ∙ j) in
    absurd (none_some (sym (ap (found_by all) h) ∙ ap (superior_of all) (sym same) ∙ k))
up_on all d u i k up (is_below {above = g} x v j m higher) =
    let same : d ≡ x = some_same (sym i ∙ j) in
    let one : v ≡ u = some_same (sym m ∙ ap (superior_of all) (sym same) ∙ k) in
    or_right (own x).equality g.equality (up g (subst (λ y. IsInEffect all y g) one higher))

own_some : (o : Option (List ℕ)) (w : List ℕ) → o ≡ Some w → is_known_by equality_family o ≡ true →
    is_some (family_by equality_family o) ≡ true
own_some None w e h = absurd (none_some e)
own_some (Some v) w e h = h

abbrev AreEqualitiesKnown : List DescriptionModel → Type 0
AreEqualitiesKnown all = (t : ℕ) (d : DescriptionModel) → slice_get all t ≡ Some d → is_known_by equality_family
    (first_text_at 5 d.fields) ≡ true

-- what has a rule has one in effect
in_effect : (all : List DescriptionModel) → AreEqualitiesKnown all → {t : ℕ} → HasEquality all t → (e : Effect) →
    IsInEffect all t e → is_some e.equality ≡ true
in_effect all known {t} (has_its_own d w i s) e p = own_on all d i (own_some (first_text_at 5 d.fields) w s
    (known t d i)) p
in_effect all known (inherits_one d u i k up) e p = up_on all d u i k (λ g q. in_effect all known up g q) p

-- ---- E15

rule_is : (g : Given) (o : Option Family) → is_some (rule_on g o) ≡ is_some o
rule_is g None = refl
rule_is g (Some f) = refl

record IsWhole (t : SchemaTextModel) : Type 0 where
  chained : IsChained t.types
  known : AreEqualitiesKnown t.types

whole : (t : SchemaTextModel) → unknown_of t (schema_of t) ≡ None → loop_line t (schema_of t) ≡ None → IsWhole t
whole t unknown loop =
    let line : unknown_line t ≡ None = first_none (unknown_line t) (missing_line t.behind (schema_of t)) unknown in
    let types : first_of_all (type_fails t) t.types ≡ None = first_none (first_of_all (type_fails t) t.types)
    (first_of_all (class_fails t) t.classes) line in
    record {
      chained = chained_by t unknown loop;
      known = λ i d e.
          second_of_five (is_known_by (find t.types) (superior_text d))
          (is_known_by equality_family (first_text_at 5 d.fields))
          (is_known_by ordering_family (first_text_at 6 d.fields)) (is_known_by substrings_family
          (first_text_at 7 d.fields)) (is_known_by syntax_of (first_text_at 8 d.fields))
          (not_not (names_known_type t.types d) (none_of_all (type_fails t) t.types i d types e));
    }

abbrev lacks_at : SchemaTextModel → ℕ → DescriptionModel → Bool
lacks_at t i d = has_no_equality (slice_get (schema_of t).types i)

lacks_is : (t : SchemaTextModel) (i : ℕ) (d : DescriptionModel) → slice_get t.types i ≡ Some d → lacks_at t i d ≡
    not (is_some (effect_of t.types i).equality)
lacks_is t i d at =
    ap has_no_equality (type_is t.types i d at)
    ∙ ap not (rule_is (effect_of t.types i).syntax (effect_of t.types i).equality)

lack_found : (t : SchemaTextModel) → IsWhole t → (i : ℕ) (d : DescriptionModel) → slice_get t.types i ≡ Some d →
    lacks_at t i d ≡ true → HasEquality t.types i → ⊥
lack_found t w i d at h p =
    let has : is_some (effect_of t.types i).equality ≡ true = in_effect t.types w.known p (effect_of t.types i)
    (found_effect t.types w.chained i d at) in
    false_true (sym (ap not has) ∙ sym (lacks_is t i d at) ∙ h)

lack_told : (t : SchemaTextModel) → IsWhole t → (i : ℕ) (d : DescriptionModel) → slice_get t.types i ≡ Some d →
    (HasEquality t.types i → ⊥) → lacks_at t i d ≡ true
lack_told t w i d at none =
    lacks_is t i d at ∙ not_false (is_some (effect_of t.types i).equality)
    (λ h. none (has_one t.types (found_effect t.types w.chained i d at) h))

pub refused_at_first_lack : RefusedAtFirstLack
refused_at_first_lack text n h =
    let t = read_text text in
    let s = schema_of t in
    let fault = fault_is text (NoEquality n) h in
    let known = other (bad_line t) BadDescription (refused_at (unknown_of t s) UnknownName (loop_fault t s))
    (NoEquality n) (λ m e. cc) fault in
    let unknown : unknown_of t s ≡ None = other_none (unknown_of t s) UnknownName (loop_fault t s) (NoEquality n)
    (λ m e. cc) known in
    let loops = other (unknown_of t s) UnknownName (loop_fault t s) (NoEquality n) (λ m e. cc) known in
    let loop : loop_line t s ≡ None = other_none (loop_line t s) LoopInSup (refused_at (no_equality_line t s)
    NoEquality None) (NoEquality n) (λ m e. cc) loops in
    let lacking = other (loop_line t s) LoopInSup (refused_at (no_equality_line t s) NoEquality None) (NoEquality n)
    (λ m e. cc) loops in
    let is : no_equality_line t s ≡ Some n = mine (no_equality_line t s) NoEquality None n (λ m e. cc) none_some
    lacking in
    let w = whole t unknown loop in
    let f = found (lacks_at t) 0 t.types n is in
    let same : 0 + f.i ≡ f.i = omega arith in
    record {
      here = record {
        number = f.i;
        described = f.d;
        at = f.at;
        is_line = f.line;
        lacks = lack_found t w f.i f.d f.at (ap (λ m. lacks_at t m f.d) (sym same) ∙ f.passes);
      };
      is_first = λ m b.
          let le : n ≤ b.described.line = not_before (lacks_at t) t.types (no_equality_line t s) n
          (text_is_sound text).are_sound.rising refl (λ k e. omega (arith, some_same (sym is ∙ e))) b.number
          b.described b.at (lack_told t w b.number b.described b.at b.lacks) in
          let line = b.is_line in
          omega (arith, le, line);
    }
