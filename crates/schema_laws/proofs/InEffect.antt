-- What is in effect for a type, along its chain of SUPs.
use Rattle.std.proofs.Common.{ℕ, ◌+◌, ◌<◌, zero, suc, List, [], ◌∷◌, ◌++◌, Bool, true, false, not, ◌&&◌, Option, None, Some, Ok, is_some, ◌≡◌, refl, sym, ap, ap₂, ◌∙◌, subst, length, reverse, slice_get, append-nil, arith}
use Rattle.std.proofs.lemmas.List.{reverse-append}
use Rattle.ldap_match.specs.ldap_words.declared.rule.Family.{Family}
use Rattle.ldap_match.specs.ldap_schema.Schema.{SchemaModel}
use Rattle.ldap_match.specs.ldap_schema.Schema as schema
use Rattle.schema_reader.specs.schema_text.Descriptions.{DescriptionModel, first_text_at}
use Rattle.schema_reader.specs.schema_text.Texts.{SchemaTextModel, read_text}
use Rattle.schema_reader.specs.schema_meaning.ldap_words.RulesByName.{equality_family, ordering_family, substrings_family, syntax_of}
use Rattle.schema_reader.specs.schema_meaning.Naming.{calls, superior_text, superior_of, find, found_by}
use Rattle.schema_reader.specs.schema_meaning.Inheriting.{way_to, way_by, way_of, way_from, gone, lineage_from, own, or_family, or_syntax, kept, agree, family_of, inherited, nothing, own_in, own_at, effect_down, effect_along, effect_of}
use Rattle.schema_reader.specs.schema_meaning.Faults.{first_of_types, first_of_all, bad_line, is_known_by, names_known_type, names_known_class, unknown_line}
use Rattle.schema_reader.specs.schema_meaning.declared.inheriting.Way.TheVariants.{Ends, GoesTo}
use Rattle.schema_reader.specs.schema_meaning.declared.inheriting.Effect.{Effect}
use Rattle.schema_reader.specs.schema_meaning.declared.inheriting.Given.{Given}
use Rattle.schema_reader.specs.schema_meaning.declared.inheriting.Given.TheVariants.{Missing, Unknown, Known}
use Rattle.schema_reader.specs.Described.{type_with, types_from, schema_of}
use Rattle.schema_reader.specs.Reading.{is_type_looping, is_class_looping, missing_line, loop_line, no_equality_line, refused_at, loop_fault, unknown_of, fault_of, schema_of_text}
use Rattle.schema_reader.specs.declared.error.SchemaError.TheVariants.{BadDescription, UnknownName, LoopInSup, NoEquality}
use Rattle.ldap_dn.proofs.Spelled.{push_onto, none_some, some_same}
use Rattle.schema_laws.specs.Chains.{IsInEffect, has_no_superior, is_below, EffectsAreInherited, TypesHaveWhatIsInEffect}
use Rattle.schema_laws.proofs.Joined.{left_true}
use Rattle.schema_laws.proofs.FirstFound.{some_at, count_types, refused_none, first_none, none_bad_by, no_fault}
use Rattle.schema_laws.proofs.ReadNames.{found_low}
use Rattle.schema_laws.proofs.OneFamily.{at_low, none_found, rest_none}
use Rattle.schema_laws.proofs.Walks.{walk, first_step, ends}
use Rattle.schema_laws.proofs.Looped.{type_is, superior_is, are_within}

-- ---- of a text without faults

pub none_of_all : (test : DescriptionModel → Bool) (ds : List DescriptionModel) (i : ℕ) (d : DescriptionModel) →
    first_of_all test ds ≡ None → slice_get ds i ≡ Some d → test d ≡ false
none_of_all test [] i d h e = absurd (none_some e)
none_of_all test (x ∷ ds) zero d h e = ap test (sym (some_same e))
    ∙ (none_bad_by (test x) x.line (first_of_all test ds) h).0
none_of_all test (x ∷ ds) (suc i) d h e = none_of_all test ds i d (none_bad_by (test x) x.line (first_of_all test ds)
    h).1 e

pub not_not : (b : Bool) → not b ≡ false → b ≡ true
not_not true h = refl
not_not false h = cc

first_of_five : (a b c d e : Bool) → (a && b && c && d && e) ≡ true → a ≡ true
first_of_five a b c d e h = left_true a b
    (left_true (a && b) c (left_true (a && b && c) d (left_true (a && b && c && d) e h)))

pub record IsChained (all : List DescriptionModel) : Type 0 where
  pub known : (t : ℕ) (d : DescriptionModel) → slice_get all t ≡ Some d → is_known_by (find all) (superior_text d) ≡
      true
  pub end : (t : ℕ) → t < length all → walk (types_from all 0 all) (length all) t ≡ None

looping_none : (t : SchemaTextModel) → loop_line t (schema_of t) ≡ None → (i : ℕ) →
    i < length (types_from t.types 0 t.types) → is_type_looping (types_from t.types 0 t.types) i ≡ false
looping_none t h i lt =
    let ts = types_from t.types 0 t.types in
    let at = some_at t.types i (omega (arith, lt, count_types t.types 0 t.types)) in
    let first : 0 + i ≡ i = omega arith in
    let none : first_of_types (λ u d. is_type_looping ts u) 0 t.types ≡ None =
    first_none (first_of_types (λ u d. is_type_looping ts u) 0 t.types)
    (first_of_types (λ c d. is_class_looping (schema_of t).classes c) 0 t.classes) h in
    ap (is_type_looping ts) (sym first) ∙ none_found (λ u d. is_type_looping ts u) 0 t.types i at.0 none at.1

pub chained_by : (t : SchemaTextModel) → unknown_of t (schema_of t) ≡ None → loop_line t (schema_of t) ≡ None →
    IsChained t.types
chained_by t unknown loop =
    let ts = types_from t.types 0 t.types in
    let line : unknown_line t ≡ None = first_none (unknown_line t) (missing_line t.behind (schema_of t)) unknown in
    let types : first_of_all (λ d. not (names_known_type t.types d)) t.types ≡ None =
    first_none (first_of_all (λ d. not (names_known_type t.types d)) t.types)
    (first_of_all (λ d. not (names_known_class t d)) t.classes) line in
    record {
      known = λ i d e.
          first_of_five (is_known_by (find t.types) (superior_text d))
          (is_known_by equality_family (first_text_at 5 d.fields))
          (is_known_by ordering_family (first_text_at 6 d.fields)) (is_known_by substrings_family
          (first_text_at 7 d.fields)) (is_known_by syntax_of (first_text_at 8 d.fields))
          (not_not (names_known_type t.types d) (none_of_all (λ x. not (names_known_type t.types x)) t.types i d types
          e));
      end = λ i lt.
          ap (λ n. walk ts n i) (sym (count_types t.types 0 t.types)) ∙ ends ts (are_within t.types)
          (looping_none t loop) i (omega (arith, lt, count_types t.types 0 t.types));
    }

chained : (t : SchemaTextModel) → fault_of t (schema_of t) ≡ None → IsChained t.types
chained t h =
    let rest : refused_at (unknown_of t (schema_of t)) UnknownName (loop_fault t (schema_of t)) ≡ None =
    rest_none (bad_line t) BadDescription (refused_at (unknown_of t (schema_of t)) UnknownName
    (loop_fault t (schema_of t))) h in
    let unknown : unknown_of t (schema_of t) ≡ None = refused_none (unknown_of t (schema_of t)) UnknownName
    (loop_fault t (schema_of t)) rest in
    let loops : loop_fault t (schema_of t) ≡ None = rest_none (unknown_of t (schema_of t)) UnknownName
    (loop_fault t (schema_of t)) rest in
    chained_by t unknown (refused_none (loop_line t (schema_of t)) LoopInSup
    (refused_at (no_equality_line t (schema_of t)) NoEquality None) loops)

-- ---- what stands above inherits nothing

or_none : (o : Option Family) → or_family o None ≡ o
or_none None = refl
or_none (Some f) = refl

kept_none : (b : Bool) → kept b None ≡ None
kept_none true = refl
kept_none false = refl

or_missing : (g : Given) → or_syntax g Missing ≡ g
or_missing Missing = refl
or_missing Unknown = refl
or_missing (Known s) = refl

made : Option Family → Option Family → Option Family → Given → Effect
made q o u g = record { equality = q; ordering = o; substrings = u; syntax = g }

root : (e : Effect) → inherited nothing e ≡ e
unfolding made
root e =
    let b = agree e.equality (family_of nothing) in
    ap₂ (λ q o. made q o (or_family e.substrings (kept b None)) (or_syntax e.syntax Missing)) (or_none e.equality)
    (ap (or_family e.ordering) (kept_none b) ∙ or_none e.ordering)
    ∙ ap₂ (λ u g. made e.equality e.ordering u g) (ap (or_family e.substrings) (kept_none b) ∙ or_none e.substrings)
    (or_missing e.syntax)

-- ---- up the chain

down_append : (all : List DescriptionModel) (above : Effect) (xs ys : List ℕ) → effect_down all above (xs ++ ys) ≡
    effect_down all (effect_down all above xs) ys
down_append all above [] ys = refl
down_append all above (x ∷ xs) ys = down_append all (inherited above (own_at all x)) xs ys

last_down : (all : List DescriptionModel) (t : ℕ) (rest : List ℕ) → effect_down all nothing (reverse (t ∷ rest)) ≡
    inherited (effect_down all nothing (reverse rest)) (own_at all t)
last_down all t rest = ap (effect_down all nothing) (reverse-append (t ∷ []) rest) ∙ down_append all nothing
    (reverse rest) (t ∷ [])

record HasChain (all : List DescriptionModel) (t : ℕ) (xs : List DescriptionModel) : Type 0 where
  rest : List ℕ
  goes : (found : List ℕ) → lineage_from all found t xs ≡ Some (found ++ rest)
  effect : IsInEffect all t (effect_down all nothing (reverse (t ∷ rest)))

chain_ends : (all : List DescriptionModel) (t : ℕ) (d x : DescriptionModel) (xs : List DescriptionModel) →
    slice_get all t ≡ Some d → superior_text d ≡ None → HasChain all t (x ∷ xs)
chain_ends all t d x xs e h =
    let way : way_from all t ≡ Ends = ap (way_of all) e ∙ ap (way_by all) h in
    let is : effect_down all nothing (reverse (t ∷ [])) ≡ own d = last_down all t []
    ∙ ap (inherited nothing) (ap own_in e) ∙ root (own d) in
    record {
      rest = [];
      goes = λ found. ap (λ w. gone found w (λ more u. lineage_from all more u xs)) way
          ∙ ap Some (sym (append-nil found));
      effect = subst (IsInEffect all t) (sym is) (has_no_superior d e h);
    }

chain_goes : (all : List DescriptionModel) (t u : ℕ) (d x : DescriptionModel) (xs : List DescriptionModel)
    (w : List ℕ) → slice_get all t ≡ Some d → superior_text d ≡ Some w → find all w ≡ Some u → HasChain all u xs →
    HasChain all t (x ∷ xs)
chain_goes all t u d x xs w e h f c =
    let way : way_from all t ≡ GoesTo u = ap (way_of all) e ∙ ap (way_by all) h ∙ ap way_to f in
    let up : superior_of all d ≡ Some u = ap (found_by all) h ∙ f in
    let is : effect_down all nothing (reverse (t ∷ u ∷ c.rest)) ≡
    inherited (effect_down all nothing (reverse (u ∷ c.rest))) (own d) =
    last_down all t (u ∷ c.rest) ∙ ap (inherited (effect_down all nothing (reverse (u ∷ c.rest)))) (ap own_in e) in
    record {
      rest = u ∷ c.rest;
      goes = λ found. ap (λ v. gone found v (λ more y. lineage_from all more y xs)) way ∙ c.goes (found ++ u ∷ [])
          ∙ ap Some (push_onto found u c.rest);
      effect = subst (IsInEffect all t) (sym is) (is_below d u e up c.effect);
    }

chain_found : (all : List DescriptionModel) (t : ℕ) (d x : DescriptionModel) (xs : List DescriptionModel) (w : List ℕ)
    (o : Option ℕ) → slice_get all t ≡ Some d → superior_text d ≡ Some w → find all w ≡ o → is_some o ≡ true →
    ((u : ℕ) → find all w ≡ Some u → HasChain all u xs) → HasChain all t (x ∷ xs)
chain_found all t d x xs w None e h f k next = cc
chain_found all t d x xs w (Some u) e h f k next = chain_goes all t u d x xs w e h f (next u f)

chain_by : (all : List DescriptionModel) (t : ℕ) (d x : DescriptionModel) (xs : List DescriptionModel)
    (o : Option (List ℕ)) → slice_get all t ≡ Some d → superior_text d ≡ o → is_known_by (find all) o ≡ true →
    ((w : List ℕ) (u : ℕ) → superior_text d ≡ Some w → find all w ≡ Some u → HasChain all u xs) →
    HasChain all t (x ∷ xs)
chain_by all t d x xs None e h k next = chain_ends all t d x xs e h
chain_by all t d x xs (Some w) e h k next = chain_found all t d x xs w (find all w) e h refl k (λ u f. next w u h f)

chain : (all : List DescriptionModel) → IsChained all → (xs : List DescriptionModel) (t : ℕ) (d : DescriptionModel) →
    slice_get all t ≡ Some d → walk (types_from all 0 all) (length xs) t ≡ None → HasChain all t xs
chain all c [] t d e h = absurd (none_some (sym h))
chain all c (x ∷ xs) t d e h =
    chain_by all t d x xs (superior_text d) e refl (c.known t d e) (λ w u q f.
    let at = some_at all u (omega (arith, found_low (calls w) 0 all u f)) in
    let up : schema.superior_of (types_from all 0 all) t ≡ Some u = superior_is all t d e ∙ ap (found_by all) q ∙ f in
    chain all c xs u at.0 at.1 (sym (first_step (types_from all 0 all) (length xs) t u up) ∙ h))

-- ---- one effect

at_root : (all : List DescriptionModel) {t : ℕ} {f : Effect} (d : DescriptionModel) → slice_get all t ≡ Some d →
    superior_text d ≡ None → IsInEffect all t f → own d ≡ f
at_root all d e h (has_no_superior x i k) = ap own (some_same (sym e ∙ i))
at_root all d e h (is_below x u i k above) =
    let same : d ≡ x = some_same (sym e ∙ i) in
    absurd (none_some (sym (ap (found_by all) h) ∙ ap (superior_of all) same ∙ k))

at_below : (all : List DescriptionModel) {t : ℕ} {f : Effect} (above : Effect) (d : DescriptionModel) (u : ℕ) →
    slice_get all t ≡ Some d → superior_of all d ≡ Some u → ((g : Effect) → IsInEffect all u g → above ≡ g) →
    IsInEffect all t f → inherited above (own d) ≡ f
at_below all above d u e h one (has_no_superior x i k) =
    let same : d ≡ x = some_same (sym e ∙ i) in
    absurd (none_some (sym (ap (superior_of all) same ∙ ap (found_by all) k) ∙ h))
at_below all above d u e h one (is_below {above = g} x v i k higher) =
    let same : d ≡ x = some_same (sym e ∙ i) in
    let up : v ≡ u = some_same (sym k ∙ ap (superior_of all) (sym same) ∙ h) in
    ap₂ inherited (one g (subst (λ y. IsInEffect all y g) up higher)) (ap own same)

pub one_effect : (all : List DescriptionModel) {t : ℕ} {e : Effect} → IsInEffect all t e → (f : Effect) →
    IsInEffect all t f → e ≡ f
one_effect all (has_no_superior d i h) f p = at_root all d i h p
one_effect all (is_below {above = above} d u i h higher) f p = at_below all above d u i h
    (λ g q. one_effect all higher g q) p

-- ---- the laws

pub found_effect : (all : List DescriptionModel) → IsChained all → (t : ℕ) (d : DescriptionModel) → slice_get all t ≡
    Some d → IsInEffect all t (effect_of all t)
found_effect all c t d e =
    let h = chain all c all t d e (c.end t (at_low all t d e)) in
    let is : effect_of all t ≡ effect_down all nothing (reverse (t ∷ h.rest)) = ap (effect_along all t)
    (h.goes (t ∷ [])) in
    subst (IsInEffect all t) (sym is) h.effect

of_text : (text : List ℕ) (s : SchemaModel) → schema_of_text text ≡ Ok s → IsChained (read_text text).types
of_text text s h = let t = read_text text in chained t (no_fault (schema_of t) s (fault_of t (schema_of t)) h).0

pub effects_are_inherited : EffectsAreInherited
effects_are_inherited text s h t d e f =
    let all = (read_text text).types in
    let here = found_effect all (of_text text s h) t d e in
    (λ p. one_effect all here f p, λ q. subst (IsInEffect all t) q here)

pub types_have_what_is_in_effect : TypesHaveWhatIsInEffect
types_have_what_is_in_effect text s h t d e f p =
    let all = (read_text text).types in
    let is : schema_of (read_text text) ≡ s =
    (no_fault (schema_of (read_text text)) s (fault_of (read_text text) (schema_of (read_text text))) h).1 in
    let one : effect_of all t ≡ f = one_effect all (found_effect all (of_text text s h) t d e) f p in
    ap (λ (x : SchemaModel). slice_get x.types t) (sym is) ∙ type_is all t d e ∙ ap (λ g. Some (type_with all d g)) one
