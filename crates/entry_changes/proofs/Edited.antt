-- Changes put together from their steps.
use Rattle.std.proofs.Common.{ℕ, ◌+◌, List, [], ◌∷◌, ◌++◌, Bool, true, false, not, Option, None, Result, Ok, Err, IfErr, IfOk, OnOk, ◌≡◌, refl, ap, ap₂, sym, subst, ◌∙◌, map, take, drop, length}
use Rattle.std.specs.List.{list_any, list_all}
use Rattle.std.specs.Bool.{◌==◌}
use Rattle.dir_entry.specs.ldap_schema.Schema.{SchemaModel}
use Rattle.dir_entry.specs.Entry.{AttributeModel, KeyedAttribute, are_in_syntax}
use Rattle.dir_entry.specs.Values.{has_repeats}
use Rattle.dir_entry.specs.Adding.{refuse, Refuses}
use Rattle.entry_changes.specs.private.Compared.{values_held, RefusesFor}
use Rattle.entry_changes.specs.Editing.{place, holds, is_empty, if_distinct, values_of, values_left, attribute_with, with_values_of, with_added, with_replaced, without_values}
use Rattle.dir_entry.specs.declared.fault.EntryError.{EntryError}
use Rattle.dir_entry.specs.declared.fault.EntryError.TheVariants.{InvalidAttributeSyntax, NoSuchAttribute, AttributeOrValueExists, ConstraintViolation, ObjectClassViolation, NotAllowedOnRdn, ObjectClassModsProhibited, NoMemory}
use Rattle.entry_changes.proofs.Placed.{with_values_back}

passes : {A : Type 0} (test : Bool) (code : ℕ) (rest : Result A ℕ) → test ≡ false → refuse test code rest ≡ rest
passes true code rest h = absurd (cc)
passes false code rest h = refl

fails : {A : Type 0} (test : Bool) (code : ℕ) (rest : Result A ℕ) → test ≡ true → refuse test code rest ≡ Err code
fails true code rest h = refl
fails false code rest h = absurd (cc)

-- a test that is behind a code
pub refused_for : {A : Type 0} (code : ℕ) (test : Bool) (error : EntryError) (asked : Result A ℕ) →
    (test ≡ true → asked ≡ Err code) → RefusesFor code test error → Refuses error asked
refused_for code test InvalidAttributeSyntax asked f h = f h.1 ∙ ap Err h.0
refused_for code test NoSuchAttribute asked f h = f h.1 ∙ ap Err h.0
refused_for code test AttributeOrValueExists asked f h = f h.1 ∙ ap Err h.0
refused_for code test ConstraintViolation asked f h = f h.1 ∙ ap Err h.0
refused_for code test ObjectClassViolation asked f h = f h.1 ∙ ap Err h.0
refused_for code test NotAllowedOnRdn asked f h = f h.1 ∙ ap Err h.0
refused_for code test ObjectClassModsProhibited asked f h = f h.1 ∙ ap Err h.0
refused_for code test NoMemory asked f h = tt

distinct_passes : {A : Type 0} (s : SchemaModel) (t : ℕ) (values : List (List ℕ)) (rest : Result A ℕ) →
    are_in_syntax s t values ≡ true → has_repeats s t values ≡ false → if_distinct s t values rest ≡ rest
distinct_passes s t values rest h k = passes _ _ _ (ap not h) ∙ passes _ _ _ k

-- what is put back where an attribute was taken out
put_in : (t i : ℕ) (e others new : List AttributeModel) (kind : ℕ) (values vs : List (List ℕ)) → i ≡ place t e →
    others ≡ take i e ++ drop (i + 1) e → new ≡ take i others ++ attribute_with kind values ++ drop i others
    → kind ≡ t → values ≡ vs → new ≡ with_values_of t vs e
put_in t i e others new kind values vs pi oi ni ki vi =
    ni
    ∙ ap₂ (λ (k : ℕ) (w : List (List ℕ)). take i others ++ attribute_with k w ++ drop i others) ki vi
    ∙ ap (λ (n : ℕ). take n others ++ attribute_with t vs ++ drop n others) pi
    ∙ with_values_back t e others vs (oi ∙ ap (λ (n : ℕ). take n e ++ drop (n + 1) e) pi)

pub added : (s : SchemaModel) (t i : ℕ) (values : List (List ℕ)) (e others new : List AttributeModel) (kind : ℕ)
    (held joined given : List (List ℕ)) → is_empty values ≡ false → are_in_syntax s t values ≡ true →
    has_repeats s t values ≡ false
    → list_any (holds s kind held) given ≡ false → held ≡ values_of t e → joined ≡ held ++ given → given ≡ values →
    kind ≡ t
    → i ≡ place t e → others ≡ take i e ++ drop (i + 1) e → new ≡ take i others ++ attribute_with kind joined ++ drop
    i others → with_added s t values e ≡ Ok new
added s t i values e others new kind held joined given some valid distinct fresh is_held is_joined is_given is_kind pi
    oi ni =
    passes _ _ _ some ∙ distinct_passes s t values _ valid distinct
    ∙ passes _ _ _ (sym (ap₂ (λ (k : ℕ) (h : List (List ℕ)). list_any (holds s k h) values) is_kind is_held)
    ∙ ap (list_any (holds s kind held)) (sym is_given) ∙ fresh)
    ∙ ap Ok (sym (put_in t i e others new kind joined (values_of t e ++ values) pi oi ni is_kind (is_joined
    ∙ ap₂ (λ (a b : List (List ℕ)). a ++ b) is_held is_given)))

pub replaced : (s : SchemaModel) (t i : ℕ) (values : List (List ℕ)) (e others new : List AttributeModel) (kind : ℕ)
    (given : List (List ℕ)) → are_in_syntax s t values ≡ true → has_repeats s t values ≡ false → given ≡ values →
    kind ≡ t
    → i ≡ place t e → others ≡ take i e ++ drop (i + 1) e → new ≡ take i others ++ attribute_with kind given ++ drop i
    others → with_replaced s t values e ≡ Ok new
replaced s t i values e others new kind given valid distinct is_given is_kind pi oi ni =
    distinct_passes s t values _ valid distinct
    ∙ ap Ok (sym (put_in t i e others new kind given values pi oi ni is_kind is_given))

pub not_added : (s : SchemaModel) (t : ℕ) (values : List (List ℕ)) (e : List AttributeModel) (kind : ℕ)
    (held given : List (List ℕ)) (error : EntryError) → is_empty values ≡ false → are_in_syntax s t values ≡ true →
    has_repeats s t values ≡ false
    → held ≡ values_of t e → given ≡ values → kind ≡ t → RefusesFor 20 (list_any (holds s kind held) given) error →
    Refuses error (with_added s t values e)
not_added s t values e kind held given error some valid distinct is_held is_given is_kind h =
    refused_for 20 (list_any (holds s kind held) given) error (with_added s t values e)
    (λ k. passes _ _ _ some ∙ distinct_passes s t values _ valid distinct
    ∙ fails _ _ _ (sym (ap₂ (λ (k : ℕ) (w : List (List ℕ)). list_any (holds s k w) given) is_kind is_held
    ∙ ap (list_any (holds s t (values_of t e))) is_given) ∙ k)) h

pub deleted : (s : SchemaModel) (t i : ℕ) (values : List (List ℕ)) (e others new : List AttributeModel) (kind : ℕ)
    (held left given : List (List ℕ)) → are_in_syntax s t values ≡ true
    → list_all (holds s kind held) given ≡ true → held ≡ values_of t e → left ≡ values_left s kind given held →
    given ≡ values → kind ≡ t
    → i ≡ place t e → others ≡ take i e ++ drop (i + 1) e → new ≡ take i others ++ attribute_with kind left ++ drop i
    others → without_values s t values e ≡ Ok new
deleted s t i values e others new kind held left given valid all is_held is_left is_given is_kind pi oi ni =
    passes _ _ _ (ap not valid)
    ∙ passes _ _ _ (ap not (sym (ap₂ (λ (k : ℕ) (h : List (List ℕ)). list_all (holds s k h) values) is_kind is_held)
    ∙ ap (list_all (holds s kind held)) (sym is_given) ∙ all))
    ∙ ap Ok (sym (put_in t i e others new kind left (values_left s t values (values_of t e)) pi oi ni is_kind
    (is_left ∙ ap₂ (λ (k : ℕ) (h : List (List ℕ)). values_left s k given h) is_kind is_held
    ∙ ap (λ (g : List (List ℕ)). values_left s t g (values_of t e)) is_given)))

pub not_deleted : (s : SchemaModel) (t : ℕ) (values : List (List ℕ)) (e : List AttributeModel) (kind : ℕ)
    (held given : List (List ℕ)) (error : EntryError) → are_in_syntax s t values ≡ true
    → held ≡ values_of t e → given ≡ values → kind ≡ t → RefusesFor 16 (not (list_all (holds s kind held) given))
    error → Refuses error (without_values s t values e)
not_deleted s t values e kind held given error valid is_held is_given is_kind h =
    refused_for 16 (not (list_all (holds s kind held) given)) error (without_values s t values e)
    (λ k. passes _ _ _ (ap not valid)
    ∙ fails _ _ _ (sym (ap₂ (λ (k : ℕ) (w : List (List ℕ)). not (list_all (holds s k w) given)) is_kind is_held
    ∙ ap (λ (g : List (List ℕ)). not (list_all (holds s t (values_of t e)) g)) is_given) ∙ k)) h

-- nothing is held of a type that is not there
pub none_held : (s : SchemaModel) (t : ℕ) (values : List (List ℕ)) (e : List AttributeModel)
    (o : Option KeyedAttribute) → are_in_syntax s t values ≡ true → is_empty values ≡ false → o ≡ None →
    values_held o ≡ values_of t e
    → without_values s t values e ≡ Err 16
none_held s t [] e o valid some h w = absurd (cc)
none_held s t (v ∷ vs) e o valid some h w =
    passes _ _ _ (ap not valid) ∙ fails _ _ _ (ap (λ (held : List (List ℕ)). not (list_all (holds s t held) (v ∷ vs)))
    (sym (sym (ap values_held h) ∙ w)))

-- whether values are given, as the code asks it
pub some_given : {A : Type 0} (items : A → List ℕ) (vs : List A) → false ≡ (length vs == 0) →
    is_empty (map items vs) ≡ false
some_given items [] h = sym h
some_given items (v ∷ vs) h = refl

-- an error that is handed on
pub handed_on : {A E : Type 0} (P : E → Type 0) (r : Result A E) (x y : E) → r ≡ Err x → x ≡ y → P y → IfErr r P
handed_on P r x y h e p = subst (λ (q : Result _ _). IfErr q P) (sym h) (subst P (sym e) p)

-- two clauses of one result
pub both_ok : {A E : Type 0} (P : Type 0) (Q R : A → Type 0) (r : Result A E) → OnOk r P → IfOk r Q →
    ((x : A) → P → Q x → R x) → IfOk r R
both_ok P Q R (Ok x) p q f = f x p q
both_ok P Q R (Err e) p q f = tt
