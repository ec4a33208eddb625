-- The first line with a loop.
use Rattle.std.proofs.Common.{ℕ, ◌+◌, ◌<◌, ◌≤◌, zero, suc, List, [], ◌∷◌, Bool, true, false, cond, Option, None, Some, Err, nat_lt, ◌≡◌, ◌⊎◌, inl, inr, refl, sym, ap, ◌∙◌, slice_get, arith}
use Rattle.std.proofs.lemmas.Bool.{ltb-true, ltb-false}
use Rattle.std.specs.List.{AllByRecursion}
use Rattle.ldap_match.specs.ldap_schema.Schema.{SchemaModel}
use Rattle.schema_reader.specs.schema_text.Descriptions.{DescriptionModel}
use Rattle.schema_reader.specs.schema_text.Texts.{SchemaTextModel, read_text}
use Rattle.schema_reader.specs.schema_meaning.Faults.{first_of_types, earlier, bad_line}
use Rattle.schema_reader.specs.Described.{schema_of}
use Rattle.schema_reader.specs.Reading.{is_type_looping, is_class_looping, loop_line, no_equality_line, refused_at, loop_fault, unknown_of, fault_of, unless_refused, schema_of_text}
use Rattle.schema_reader.specs.declared.error.SchemaError.{SchemaError}
use Rattle.schema_reader.specs.declared.error.SchemaError.TheVariants.{BadDescription, UnknownName, LoopInSup, NoEquality}
use Rattle.ldap_dn.proofs.Spelled.{none_some, some_same}
use Rattle.schema_laws.specs.Chains.{HasLoopIn, type_comes_back, class_comes_back, RefusedAtFirstLoop, ReadTextsHaveNoLoop}
use Rattle.schema_laws.proofs.SoundTexts.{AreRising, text_is_sound, classes_are_sound}
use Rattle.schema_laws.proofs.FirstFound.{get_all, refused_none, first_none, second_none, no_fault}
use Rattle.schema_laws.proofs.OneFamily.{none_found, rest_none}
use Rattle.schema_laws.proofs.Looped.{loops_of_types}
use Rattle.schema_laws.proofs.Lineages.{loops_of_classes}

pub false_true : false ≡ true → ⊥
false_true h = cc

-- ---- the first description that a test finds

pub record IsFoundAt (test : ℕ → DescriptionModel → Bool) (k : ℕ) (ds : List DescriptionModel) (n : ℕ) : Type 0 where
  pub i : ℕ
  pub d : DescriptionModel
  pub at : slice_get ds i ≡ Some d
  pub line : d.line ≡ n
  pub passes : test (k + i) d ≡ true

found_by : (test : ℕ → DescriptionModel → Bool) (k : ℕ) (x : DescriptionModel) (ds : List DescriptionModel) (n : ℕ)
    (b : Bool) → test k x ≡ b → cond b (Some x.line) (first_of_types test (k + 1) ds) ≡ Some n →
    (first_of_types test (k + 1) ds ≡ Some n → IsFoundAt test (k + 1) ds n) → IsFoundAt test k (x ∷ ds) n
found_by test k x ds n true e h f = let same : k + 0 ≡ k = omega arith in record {
  i = 0;
  d = x;
  at = refl;
  line =
      some_same h;
  passes = ap (λ m. test m x) same ∙ e;
}
found_by test k x ds n false e h f =
    let r = f h in
    let same : k + suc r.i ≡ (k + 1) + r.i = omega arith in
    record { i = suc r.i; d = r.d; at = r.at; line = r.line; passes = ap (λ m. test m r.d) same ∙ r.passes }

pub found : (test : ℕ → DescriptionModel → Bool) (k : ℕ) (ds : List DescriptionModel) (n : ℕ) →
    first_of_types test k ds ≡ Some n → IsFoundAt test k ds n
found test k [] n h = absurd (none_some h)
found test k (x ∷ ds) n h = found_by test k x ds n (test k x) refl h (λ e. found test (k + 1) ds n e)

least_here : (test : ℕ → DescriptionModel → Bool) (k : ℕ) (x : DescriptionModel) (ds : List DescriptionModel) (n : ℕ)
    (b : Bool) → test k x ≡ b → cond b (Some x.line) (first_of_types test (k + 1) ds) ≡ Some n →
    AllByRecursion (λ e. x.line < e.line) ds → (j : ℕ) (e : DescriptionModel) → slice_get (x ∷ ds) j ≡ Some e →
    test (k + j) e ≡ true
    → ((i : ℕ) → first_of_types test (k + 1) ds ≡ Some n → slice_get ds i ≡ Some e → test ((k + 1) + i) e ≡ true →
    n ≤ e.line) → n ≤ e.line
least_here test k x ds n true p h a zero e at passes f =
    let first : x.line ≡ n = some_same h in
    let same : x.line ≡ e.line = ap (λ (z : DescriptionModel). z.line) (some_same at) in
    omega (arith, first, same)
least_here test k x ds n true p h a (suc j) e at passes f =
    let first : x.line ≡ n = some_same h in
    let lt : x.line < e.line = get_all (λ z. x.line < z.line) ds j e a at in
    omega (arith, first, lt)
least_here test k x ds n false p h a zero e at passes f =
    let same : k + 0 ≡ k = omega arith in
    absurd (false_true (sym p ∙ ap (test k) (some_same at) ∙ sym (ap (λ m. test m e) same) ∙ passes))
least_here test k x ds n false p h a (suc j) e at passes f =
    let same : (k + 1) + j ≡ k + suc j = omega arith in
    f j h at (ap (λ m. test m e) same ∙ passes)

least : (test : ℕ → DescriptionModel → Bool) (k : ℕ) (ds : List DescriptionModel) (n : ℕ) → AreRising ds →
    first_of_types test k ds ≡ Some n → (j : ℕ) (e : DescriptionModel) → slice_get ds j ≡ Some e → test (k + j) e ≡
    true → n ≤ e.line
least test k [] n r h j e at passes = absurd (none_some h)
least test k (x ∷ ds) n r h j e at passes = least_here test k x ds n (test k x) refl h r.0 j e at passes
    (λ i g a p. least test (k + 1) ds n r.1 g i e a p)

-- a line that a test finds is not before the first one
pub not_before : (test : ℕ → DescriptionModel → Bool) (ds : List DescriptionModel) (o : Option ℕ) (n : ℕ) →
    AreRising ds → first_of_types test 0 ds ≡ o → ((m : ℕ) → o ≡ Some m → n ≤ m) → (j : ℕ) (e : DescriptionModel) →
    slice_get ds j ≡ Some e → test j e ≡ true → n ≤ e.line
not_before test ds None n r h le j e at passes =
    let same : 0 + j ≡ j = omega arith in
    absurd (false_true (sym (none_found test 0 ds j e h at) ∙ ap (λ m. test m e) same ∙ passes))
not_before test ds (Some m) n r h le j e at passes =
    let same : 0 + j ≡ j = omega arith in
    let first : m ≤ e.line = least test 0 ds m r h j e at (ap (λ i. test i e) same ∙ passes) in
    let l : n ≤ m = le m refl in
    omega (arith, first, l)

-- ---- the earlier one of two lines

lower_by : (b : Bool) (m k n : ℕ) → cond b m k ≡ n → (k ≡ n) ⊎ (m ≡ n)
lower_by true m k n h = inr h
lower_by false m k n h = inl h

pub one_of : (a b : Option ℕ) (n : ℕ) → earlier a b ≡ Some n → (a ≡ Some n) ⊎ (b ≡ Some n)
one_of None b n h = inr h
one_of (Some k) None n h = inl h
one_of (Some k) (Some m) n h = by (lower_by (nat_lt m k) m k n (some_same h)) where
  by : (k ≡ n) ⊎ (m ≡ n) → (Some k ≡ Some n) ⊎ (Some m ≡ Some n)
  by (inl e) = inl (ap Some e)
  by (inr e) = inr (ap Some e)

pub lower : (b : Bool) (m k n : ℕ) → nat_lt m k ≡ b → cond b m k ≡ n → (n ≤ k) × (n ≤ m)
lower true m k n e h = let lt = ltb-true m k e in (omega (arith, lt, h), omega (arith, h))
lower false m k n e h = let le = ltb-false m k e in (omega (arith, h), omega (arith, le, h))

pub no_later_one : (a b : Option ℕ) (n k : ℕ) → earlier a b ≡ Some n → a ≡ Some k → n ≤ k
no_later_one None b n k h e = absurd (none_some e)
no_later_one (Some x) None n k h e = let s : x ≡ n = some_same h in let t : x ≡ k = some_same e in omega (arith, s, t)
no_later_one (Some x) (Some m) n k h e = let t : x ≡ k = some_same e in let l : n ≤ x =
    (lower (nat_lt m x) m x n refl (some_same h)).0 in omega (arith, l, t)

pub no_later_two : (a b : Option ℕ) (n m : ℕ) → earlier a b ≡ Some n → b ≡ Some m → n ≤ m
no_later_two None b n m h e = let s : n ≡ m = some_same (sym h ∙ e) in omega (arith, s)
no_later_two (Some x) None n m h e = absurd (none_some e)
no_later_two (Some x) (Some y) n m h e = let t : y ≡ m = some_same e in let l : n ≤ y =
    (lower (nat_lt y x) y x n refl (some_same h)).1 in omega (arith, l, t)

-- ---- a text with a loop

abbrev type_loops : SchemaTextModel → ℕ → DescriptionModel → Bool
type_loops t i d = is_type_looping (schema_of t).types i

abbrev class_loops : SchemaTextModel → ℕ → DescriptionModel → Bool
class_loops t i d = is_class_looping (schema_of t).classes i

loop_at_by : (text : List ℕ) (n : ℕ) → (first_of_types (type_loops (read_text text)) 0 (read_text text).types ≡
    Some n) ⊎ (first_of_types (class_loops (read_text text)) 0 (read_text text).classes ≡ Some n) →
    HasLoopIn (read_text text) n
loop_at_by text n (inl e) =
    let f = found (type_loops (read_text text)) 0 (read_text text).types n e in
    let same : 0 + f.i ≡ f.i = omega arith in
    type_comes_back f.i f.d f.at f.line
    ((loops_of_types text f.i).0 (sym (ap (is_type_looping (schema_of (read_text text)).types) same) ∙ f.passes))
loop_at_by text n (inr e) =
    let f = found (class_loops (read_text text)) 0 (read_text text).classes n e in
    let same : 0 + f.i ≡ f.i = omega arith in
    class_comes_back f.i f.d f.at f.line ((loops_of_classes text f.i).0
    (sym (ap (is_class_looping (schema_of (read_text text)).classes) same) ∙ f.passes))

first_by : (text : List ℕ) (n : ℕ) → loop_line (read_text text) (schema_of (read_text text)) ≡ Some n → {m : ℕ} →
    HasLoopIn (read_text text) m → n ≤ m
first_by text n h (type_comes_back i d at line b) =
    let t = read_text text in
    let types = first_of_types (type_loops t) 0 t.types in
    let classes = first_of_types (class_loops t) 0 t.classes in
    let le : n ≤ d.line = not_before (type_loops t) t.types types n (text_is_sound text).are_sound.rising refl
    (λ k e. no_later_one types classes n k h e) i d at ((loops_of_types text i).1 b) in
    omega (arith, le, line)
first_by text n h (class_comes_back i d at line b) =
    let t = read_text text in
    let types = first_of_types (type_loops t) 0 t.types in
    let classes = first_of_types (class_loops t) 0 t.classes in
    let le : n ≤ d.line = not_before (class_loops t) t.classes classes n (classes_are_sound text).are_sound.rising
    refl (λ k e. no_later_two types classes n k h e) i d at ((loops_of_classes text i).1 b) in
    omega (arith, le, line)

-- ---- the refusal

pub refused_is : (s : SchemaModel) (o : Option SchemaError) (e : SchemaError) → unless_refused s o ≡ Err e → o ≡ Some e
refused_is s None e h = cc
refused_is s (Some x) e h = let same : x ≡ e = cc in ap Some same

pub other : (o : Option ℕ) (f : ℕ → SchemaError) (rest : Option SchemaError) (e : SchemaError) →
    ((n : ℕ) → f n ≡ e → ⊥) → refused_at o f rest ≡ Some e → rest ≡ Some e
other None f rest e differ h = h
other (Some n) f rest e differ h = absurd (differ n (some_same h))

same_line : (m n : ℕ) → LoopInSup m ≡ LoopInSup n → m ≡ n
same_line m n h = cc

no_equality : (o : Option ℕ) (n : ℕ) → refused_at o NoEquality None ≡ Some (LoopInSup n) → ⊥
no_equality None n h = none_some h
no_equality (Some m) n h = let same : NoEquality m ≡ LoopInSup n = some_same h in cc

this : (o p : Option ℕ) (n : ℕ) → refused_at o LoopInSup (refused_at p NoEquality None) ≡ Some (LoopInSup n) →
    o ≡ Some n
this None p n h = absurd (no_equality p n h)
this (Some m) p n h = ap Some (same_line m n (some_same h))

loop_is : (text : List ℕ) (n : ℕ) → schema_of_text text ≡ Err (LoopInSup n) → loop_line (read_text text)
    (schema_of (read_text text)) ≡ Some n
loop_is text n h =
    let t = read_text text in
    let fault : fault_of t (schema_of t) ≡ Some (LoopInSup n) = refused_is (schema_of t) (fault_of t (schema_of t))
    (LoopInSup n) h in
    let unknown : refused_at (unknown_of t (schema_of t)) UnknownName (loop_fault t (schema_of t)) ≡
    Some (LoopInSup n) =
    other (bad_line t) BadDescription (refused_at (unknown_of t (schema_of t)) UnknownName
    (loop_fault t (schema_of t))) (LoopInSup n) (λ m e. cc) fault in
    let loop : loop_fault t (schema_of t) ≡ Some (LoopInSup n) = other (unknown_of t (schema_of t)) UnknownName
    (loop_fault t (schema_of t)) (LoopInSup n) (λ m e. cc) unknown in
    this (loop_line t (schema_of t)) (no_equality_line t (schema_of t)) n loop

pub refused_at_first_loop : RefusedAtFirstLoop
refused_at_first_loop text n h =
    let t = read_text text in
    let is = loop_is text n h in
    record {
      has_loop = loop_at_by text n (one_of (first_of_types (type_loops t) 0 t.types) (first_of_types (class_loops t) 0
          t.classes) n is);
      is_first = λ m b. first_by text n is b;
    }

no_type : (text : List ℕ) (i : ℕ) (d : DescriptionModel) → first_of_types (type_loops (read_text text)) 0
    (read_text text).types ≡ None → slice_get (read_text text).types i ≡ Some d →
    is_type_looping (schema_of (read_text text)).types i ≡ false
no_type text i d h at =
    let same : 0 + i ≡ i = omega arith in
    ap (is_type_looping (schema_of (read_text text)).types) (sym same) ∙ none_found (type_loops (read_text text)) 0
    (read_text text).types i d h at

no_class : (text : List ℕ) (i : ℕ) (d : DescriptionModel) → first_of_types (class_loops (read_text text)) 0
    (read_text text).classes ≡ None → slice_get (read_text text).classes i ≡ Some d →
    is_class_looping (schema_of (read_text text)).classes i ≡ false
no_class text i d h at =
    let same : 0 + i ≡ i = omega arith in
    ap (is_class_looping (schema_of (read_text text)).classes) (sym same) ∙ none_found (class_loops (read_text text))
    0 (read_text text).classes i d h at

no_loop : (text : List ℕ) → loop_line (read_text text) (schema_of (read_text text)) ≡ None → {n : ℕ} →
    HasLoopIn (read_text text) n → ⊥
no_loop text h (type_comes_back i d at line b) =
    let t = read_text text in
    false_true (sym (no_type text i d (first_none (first_of_types (type_loops t) 0 t.types)
    (first_of_types (class_loops t) 0 t.classes) h) at) ∙ (loops_of_types text i).1 b)
no_loop text h (class_comes_back i d at line b) =
    let t = read_text text in
    false_true (sym (no_class text i d (second_none (first_of_types (type_loops t) 0 t.types)
    (first_of_types (class_loops t) 0 t.classes) h) at) ∙ (loops_of_classes text i).1 b)

pub read_texts_have_no_loop : ReadTextsHaveNoLoop
read_texts_have_no_loop text s h line b =
    let t = read_text text in
    let fault : fault_of t (schema_of t) ≡ None = (no_fault (schema_of t) s (fault_of t (schema_of t)) h).0 in
    let unknown : refused_at (unknown_of t (schema_of t)) UnknownName (loop_fault t (schema_of t)) ≡ None =
    rest_none (bad_line t) BadDescription (refused_at (unknown_of t (schema_of t)) UnknownName
    (loop_fault t (schema_of t))) fault in
    let loop : loop_fault t (schema_of t) ≡ None = rest_none (unknown_of t (schema_of t)) UnknownName
    (loop_fault t (schema_of t)) unknown in
    no_loop text (refused_none (loop_line t (schema_of t)) LoopInSup (refused_at (no_equality_line t (schema_of t))
    NoEquality None) loop) b
