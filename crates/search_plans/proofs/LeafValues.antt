-- Leaves: the value on the attributes of one type.
use Rattle.std.proofs.Common.{◌≡◌, ◌≢◌, ℕ, Bool, true, false, ◌&&◌, ◌||◌, not, List, [], ◌∷◌, map, cond, refl, sym, ap, ◌∙◌}
use Rattle.std.specs.List.{list_any}
use Rattle.ldap_eval.specs.ldap_match.Truth.{truth_or, truth_of, disjunction}
use Rattle.ldap_eval.specs.ldap_match.Keyed.{test_value, is_same_key, is_key_at_least, is_key_at_most}
use Rattle.ldap_eval.specs.ldap_match.Parts.{has_parts}
use Rattle.ldap_eval.specs.ldap_match.declared.truth.Truth.{Truth}
use Rattle.ldap_eval.specs.ldap_match.declared.truth.Truth.TheVariants.{True, False, Undefined}
use Rattle.ldap_eval.specs.ldap_match.declared.testing.Test.{Test}
use Rattle.ldap_eval.specs.ldap_match.declared.testing.Test.TheVariants as test
use Rattle.ldap_eval.specs.dir_entry.Entry.{KeyedAttribute}
use Rattle.dir_index.specs.index_choice.declared.kinds.Kinds.{Kinds}
use Rattle.dir_index.specs.Postings.{is_of, has_type, some_key}
use Rattle.search_plans.specs.Sets.{holds}
use Rattle.search_plans.specs.declared.plan.Plan.{Plan}
use Rattle.ldap_eval.specs.Bound.{leaf_value}
use Rattle.ldap_eval.specs.declared.bound.Leaf.{Leaf}
use Rattle.search_plans.specs.Bounds.{Bounds}

-- the `or` of something over the attributes of a type
abbrev pub or_of_type : ℕ → (KeyedAttribute → Truth) → List KeyedAttribute → Truth
or_of_type t f e = disjunction (map (λ (a : KeyedAttribute). cond (is_of t a) (f a) False) e)

or_of : (a b : Bool) → truth_or (truth_of a) (truth_of b) ≡ truth_of (a || b)
or_of true b = refl
or_of false b = refl

-- the `or` over the attributes of a type, where each is true or false
or_over : (t : ℕ) (p : List ℕ → Bool) (e : List KeyedAttribute) → or_of_type t (λ a. truth_of (list_any p a.keys)) e ≡
    truth_of (some_key t p e)
or_over t p [] = refl
or_over t p (a ∷ e) =
    elim (is_of t a) as (λ v. truth_or (cond v (truth_of (list_any p a.keys)) False)
    (or_of_type t (λ x. truth_of (list_any p x.keys)) e) ≡ truth_of ((v && list_any p a.keys) || some_key t p e)) [
      | true ↦ ap (truth_or (truth_of (list_any p a.keys))) (or_over t p e) ∙ or_of (list_any p a.keys) (some_key t p e)
      | false ↦ or_over t p e
    ]

or_over_all : (t : ℕ) (e : List KeyedAttribute) → or_of_type t (λ a. True) e ≡ truth_of (has_type t e)
or_over_all t [] = refl
or_over_all t (a ∷ e) =
    elim (is_of t a) as (λ v. truth_or (cond v True False) (or_of_type t (λ x. True) e) ≡
    truth_of (v || has_type t e)) [
      | true ↦ refl
      | false ↦ or_over_all t e
    ]

-- Undefined where the type is there, else False
abbrev pub unknown_of : Bool → Truth
unknown_of true = Undefined
unknown_of false = False

or_unknown : (b : Bool) → truth_or Undefined (unknown_of b) ≡ Undefined
or_unknown true = refl
or_unknown false = refl

or_over_unknown : (t : ℕ) (e : List KeyedAttribute) → or_of_type t (λ a. Undefined) e ≡ unknown_of (has_type t e)
or_over_unknown t [] = refl
or_over_unknown t (a ∷ e) =
    elim (is_of t a) as (λ v. truth_or (cond v Undefined False) (or_of_type t (λ x. Undefined) e) ≡
    unknown_of (v || has_type t e)) [
      | true ↦ ap (truth_or Undefined) (or_over_unknown t e) ∙ or_unknown (has_type t e)
      | false ↦ or_over_unknown t e
    ]

-- whether a test that is true or false is true on the attributes of a type
abbrev pub test_holds : ℕ → Test → List KeyedAttribute → Bool
test_holds t test.Present e = has_type t e
test_holds t test.Unknown e = false
test_holds t (test.Equal k) e = some_key t (is_same_key k) e
test_holds t (test.AtLeast k) e = some_key t (is_key_at_least k) e
test_holds t (test.AtMost k) e = some_key t (is_key_at_most k) e
test_holds t (test.Parts p) e = some_key t (has_parts p) e

two_valued : (t : ℕ) (x : Test) (e : List KeyedAttribute) → x ≢ test.Unknown →
    leaf_value e (record { type_id = t; test = x }) ≡ truth_of (test_holds t x e)
two_valued t test.Present e n = or_over_all t e
two_valued t test.Unknown e n = absurd (n refl)
two_valued t (test.Equal k) e n = or_over t (is_same_key k) e
two_valued t (test.AtLeast k) e n = or_over t (is_key_at_least k) e
two_valued t (test.AtMost k) e n = or_over t (is_key_at_most k) e
two_valued t (test.Parts p) e n = or_over t (has_parts p) e

pub leaf_two_valued : (leaf : Leaf) → leaf.test ≢ test.Unknown → (e : List KeyedAttribute) → leaf_value e leaf ≡
    truth_of (test_holds leaf.type_id leaf.test e)
leaf_two_valued leaf n e = two_valued leaf.type_id leaf.test e n

pub leaf_unknown : (leaf : Leaf) → leaf.test ≡ test.Unknown → (e : List KeyedAttribute) → leaf_value e leaf ≡
    unknown_of (has_type leaf.type_id e)
leaf_unknown leaf is e = ap (λ (x : Test). leaf_value e (record { type_id = leaf.type_id; test = x })) is
    ∙ or_over_unknown leaf.type_id e

-- a leaf by its test
pub leaf_as : (leaf : Leaf) (x : Test) → leaf.test ≡ x → x ≢ test.Unknown → (e : List KeyedAttribute) →
    leaf_value e leaf ≡ truth_of (test_holds leaf.type_id x e)
leaf_as leaf x is n e = ap (λ (y : Test). leaf_value e (record { type_id = leaf.type_id; test = y })) is
    ∙ two_valued leaf.type_id x e n

-- what is true on the attributes of a type has one
or_has_type : (t : ℕ) (f : KeyedAttribute → Truth) (e : List KeyedAttribute) → or_of_type t f e ≡ True →
    has_type t e ≡ true
or_has_type t f [] h = cc
or_has_type t f (a ∷ e) h =
    (elim (is_of t a) as (λ v. truth_or (cond v (f a) False) (or_of_type t f e) ≡ True → (v || has_type t e) ≡ true) [
      | true ↦ λ k. refl
      | false ↦ λ k. or_has_type t f e k
    ]) h

pub leaf_has_type : (leaf : Leaf) (e : List KeyedAttribute) → leaf_value e leaf ≡ True → has_type leaf.type_id e ≡ true
leaf_has_type leaf e h = or_has_type leaf.type_id (λ a. test_value leaf.test a.keys) e h

pub of_true : (b : Bool) → truth_of b ≡ True → b ≡ true
of_true true h = refl
of_true false h = cc

of_false : (b : Bool) → truth_of b ≡ False → b ≡ false
of_false true h = cc
of_false false h = refl

-- a plan that says what the value says bounds it
pub bounds_by : (ix : List Kinds) (value : List KeyedAttribute → Truth) (p : Plan) (b : List KeyedAttribute → Bool) →
    ((e : List KeyedAttribute) → value e ≡ truth_of (b e)) → ((e : List KeyedAttribute) → holds ix e p ≡ b e)
    → Bounds ix value True true p p
bounds_by ix value p b is said e = record {
  sound = λ h. is e ∙ ap truth_of (sym (said e) ∙ h);
  complete = λ h. said e ∙ of_true (b e) (sym (is e) ∙ h);
  exact = λ d h. h;
}

pub not_true : (a : Bool) → not a ≡ true → a ≡ false
not_true true h = cc
not_true false h = refl

flip_sound : (b y : Bool) → (b ≡ true → y ≡ true) → y ≡ false → truth_of b ≡ False
flip_sound true y f h = let k : y ≡ true = f refl in cc
flip_sound false y f h = refl

flip_complete : (b m : Bool) → (m ≡ true → truth_of b ≡ True) → b ≡ false → not m ≡ true
flip_complete b true f h = let k : truth_of b ≡ True = f refl in let l : truth_of b ≡ False = ap truth_of h in cc
flip_complete b false f h = refl

flip_exact : (m y : Bool) → (y ≡ true → m ≡ true) → m ≡ false → not y ≡ true
flip_exact m true f h = let k : m ≡ true = f refl in cc
flip_exact m false f h = refl

-- the other side of a value that is true or false
pub bounds_flip : (ix : List Kinds) (value : List KeyedAttribute → Truth) (b : List KeyedAttribute → Bool)
    (m y m' y' : Plan) (d : Bool) → ((e : List KeyedAttribute) → value e ≡ truth_of (b e))
    → ((e : List KeyedAttribute) → holds ix e m' ≡ not (holds ix e y)) → ((e : List KeyedAttribute) → holds ix e y' ≡
    not (holds ix e m))
    → Bounds ix value True d m y → Bounds ix value False d m' y'
bounds_flip ix value b m y m' y' d is om oy bounds e = record {
  sound = λ h.
      let out : holds ix e y ≡ false = not_true _ (sym (om e) ∙ h) in
      is e ∙ flip_sound (b e) (holds ix e y) (λ k. (bounds e).complete (is e ∙ ap truth_of k)) out;
  complete = λ h. oy e ∙ flip_complete (b e) (holds ix e m) (λ k. sym (is e) ∙ (bounds e).sound k)
      (of_false (b e) (sym (is e) ∙ h));
  exact = λ k h. om e ∙ flip_exact (holds ix e m) (holds ix e y) ((bounds e).exact k) (not_true _ (sym (oy e) ∙ h));
}
