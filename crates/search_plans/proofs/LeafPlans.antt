-- The plans of one index, beside the leaves that they are for.
use Rattle.std.proofs.Common.{◌≡◌, ℕ, Bool, true, false, ◌&&◌, ◌||◌, not, List, [], ◌∷◌, Some, None, refl, sym, ap, ap₂, ◌∙◌}
use Rattle.std.specs.List.{list_any}
use Rattle.ldap_eval.specs.ldap_match.Keyed.{is_same_key, is_key_at_least, is_key_at_most}
use Rattle.ldap_eval.specs.ldap_match.declared.truth.Truth.TheVariants.{True, False}
use Rattle.ldap_eval.specs.ldap_match.declared.testing.Test.{Test}
use Rattle.ldap_eval.specs.ldap_match.declared.testing.Test.TheVariants as test
use Rattle.ldap_eval.specs.dir_entry.Entry.{KeyedAttribute}
use Rattle.dir_index.specs.index_choice.declared.kinds.Kinds.{Kinds}
use Rattle.dir_index.specs.index_choice.Choice.{kinds_of}
use Rattle.dir_index.specs.Postings.{is_of, has_type, some_key}
use Rattle.dir_index.specs.declared.posting.Posting.TheVariants as posting
use Rattle.search_plans.specs.Sets.{holds}
use Rattle.search_plans.specs.declared.plan.Plan.{Plan}
use Rattle.search_plans.specs.declared.plan.Plan.TheVariants as plan
use Rattle.search_plans.proofs.PlanEquations.{in_plan-Posting, in_plan-Range, in_plan-Empty}
use Rattle.ldap_eval.specs.Bound.{leaf_value}
use Rattle.ldap_eval.specs.declared.bound.Leaf.{Leaf}
use Rattle.search_plans.specs.Bounds.{is_test_decided, Bounds}
use Rattle.search_plans.proofs.LeafValues.{leaf_as, leaf_unknown, unknown_of, leaf_has_type, bounds_by, not_true}

pub decided_as : (ix : List Kinds) (leaf : Leaf) (x : Test) → leaf.test ≡ x → is_test_decided ix leaf.type_id
    leaf.test ≡ true → is_test_decided ix leaf.type_id x ≡ true
decided_as ix leaf x is d = sym (ap (is_test_decided ix leaf.type_id) is) ∙ d

pub and_kept : (k b : Bool) → k ≡ true → (k && b) ≡ b
and_kept k b h = rw h

and_true : (b : Bool) → (b && true) ≡ b
and_true true = refl
and_true false = refl

same_any : (p q : List ℕ → Bool) → ((x : List ℕ) → p x ≡ q x) → (xs : List (List ℕ)) → list_any p xs ≡ list_any q xs
same_any p q h [] = refl
same_any p q h (x ∷ xs) = ap₂ (λ (a b : Bool). a || b) (h x) (same_any p q h xs)

some_key_same : (t : ℕ) (p q : List ℕ → Bool) → ((x : List ℕ) → p x ≡ q x) → (e : List KeyedAttribute) →
    some_key t p e ≡ some_key t q e
some_key_same t p q h [] = refl
some_key_same t p q h (a ∷ e) = ap₂ (λ (x y : Bool). (is_of t a && x) || y) (same_any p q h a.keys)
    (some_key_same t p q h e)

pub listed_present : (ix : List Kinds) (leaf : Leaf) → leaf.test ≡ test.Present → is_test_decided ix leaf.type_id
    leaf.test ≡ true
    → let p : Plan = plan.Posting (posting.Present leaf.type_id) in Bounds ix (λ e. leaf_value e leaf) True true p p
listed_present ix leaf is d =
    bounds_by ix (λ e. leaf_value e leaf) _ (has_type leaf.type_id) (leaf_as leaf test.Present is (λ h. cc))
    (λ e. in_plan-Posting _ _ _ _ ∙ and_kept _ _ (decided_as ix leaf test.Present is d))

pub listed_equal : (ix : List Kinds) (leaf : Leaf) (k v : List ℕ) → leaf.test ≡ test.Equal k → v ≡ k →
    is_test_decided ix leaf.type_id leaf.test ≡ true
    → let p : Plan = plan.Posting (posting.Equal leaf.type_id v) in Bounds ix (λ e. leaf_value e leaf) True true p p
listed_equal ix leaf k v is same d =
    bounds_by ix (λ e. leaf_value e leaf) _ (λ e. some_key leaf.type_id (is_same_key k) e)
    (leaf_as leaf (test.Equal k) is (λ h. cc))
    (λ e. in_plan-Posting _ _ _ _ ∙ and_kept _ _ (decided_as ix leaf (test.Equal k) is d)
    ∙ ap (λ (y : List ℕ). some_key leaf.type_id (is_same_key y) e) same)

pub listed_at_least : (ix : List Kinds) (leaf : Leaf) (k v : List ℕ) → leaf.test ≡ test.AtLeast k → v ≡ k →
    is_test_decided ix leaf.type_id leaf.test ≡ true
    → let p : Plan = plan.Range (record { type_id = leaf.type_id; from = Some v; upto = None }) in Bounds ix
    (λ e. leaf_value e leaf) True true p p
listed_at_least ix leaf k v is same d =
    bounds_by ix (λ e. leaf_value e leaf) _ (λ e. some_key leaf.type_id (is_key_at_least k) e)
    (leaf_as leaf (test.AtLeast k) is (λ h. cc))
    (λ e. in_plan-Range _ _ _ _ ∙ and_kept _ _ (decided_as ix leaf (test.AtLeast k) is d)
    ∙ ap (λ (y : List ℕ). some_key leaf.type_id (λ x. is_key_at_least y x && true) e) same
    ∙ some_key_same leaf.type_id _ _ (λ x. and_true _) e)

pub listed_at_most : (ix : List Kinds) (leaf : Leaf) (k v : List ℕ) → leaf.test ≡ test.AtMost k → v ≡ k →
    is_test_decided ix leaf.type_id leaf.test ≡ true
    → let p : Plan = plan.Range (record { type_id = leaf.type_id; from = None; upto = Some v }) in Bounds ix
    (λ e. leaf_value e leaf) True true p p
listed_at_most ix leaf k v is same d =
    bounds_by ix (λ e. leaf_value e leaf) _ (λ e. some_key leaf.type_id (is_key_at_most k) e)
    (leaf_as leaf (test.AtMost k) is (λ h. cc))
    (λ e. in_plan-Range _ _ _ _ ∙ and_kept _ _ (decided_as ix leaf (test.AtMost k) is d)
    ∙ ap (λ (y : List ℕ). some_key leaf.type_id (λ x. is_key_at_most y x) e) same)

-- a value is never true where the type lacks the rule
pub unknown_not_true : (b : Bool) → unknown_of b ≡ True → ⊥
unknown_not_true true h = cc
unknown_not_true false h = cc

unknown_false : (b : Bool) → unknown_of b ≡ False → b ≡ false
unknown_false true h = cc
unknown_false false h = refl

pub listed_unknown : (ix : List Kinds) (leaf : Leaf) → leaf.test ≡ test.Unknown
    → Bounds ix (λ e. leaf_value e leaf) True true plan.Empty plan.Empty
listed_unknown ix leaf is e = record {
  sound = λ h. let k : true ≡ false = sym h ∙ in_plan-Empty _ _ _ in cc;
  complete = λ h. absurd (unknown_not_true _ (sym (leaf_unknown leaf is e) ∙ h));
  exact = λ d h. h;
}

pub possible_present : (ix : List Kinds) (leaf : Leaf) → (kinds_of ix leaf.type_id).presence ≡ true
    → Bounds ix (λ e. leaf_value e leaf) True false plan.Empty (plan.Posting (posting.Present leaf.type_id))
possible_present ix leaf kept e = record {
  sound = λ h. let k : true ≡ false = sym h ∙ in_plan-Empty _ _ _ in cc;
  complete = λ h. in_plan-Posting _ _ _ _ ∙ and_kept _ _ kept ∙ leaf_has_type leaf e h;
  exact = λ d h. let k : false ≡ true = d in cc;
}

unknown_is_false : (b : Bool) → b ≡ false → unknown_of b ≡ False
unknown_is_false true h = cc
unknown_is_false false h = refl

not_false : (a : Bool) → a ≡ false → not a ≡ true
not_false true h = cc
not_false false h = refl

-- all but the entries that have the type
pub unknown_bounds : (ix : List Kinds) (t : ℕ) (m y : Plan) (d : Bool) → (kinds_of ix t).presence ≡ true
    → ((e : List KeyedAttribute) → holds ix e m ≡ not (holds ix e (plan.Posting (posting.Present t)))) →
    ((e : List KeyedAttribute) → holds ix e y ≡ not (holds ix e (plan.Posting (posting.Present t))))
    → Bounds ix (λ e. leaf_value e (record { type_id = t; test = test.Unknown })) False d m y
unknown_bounds ix t m y d kept om oy e =
    let listed : holds ix e (plan.Posting (posting.Present t)) ≡ has_type t e = in_plan-Posting _ _ _ _
    ∙ and_kept _ _ kept in
    let is = leaf_unknown (record { type_id = t; test = test.Unknown }) refl e in
    record {
      sound = λ h. is ∙ unknown_is_false _ (sym listed ∙ not_true _ (sym (om e) ∙ h));
      complete = λ h. oy e ∙ not_false _ (listed ∙ unknown_false _ (sym is ∙ h));
      exact = λ k h. om e ∙ sym (oy e) ∙ h;
    }
