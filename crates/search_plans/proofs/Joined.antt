-- Of an entry with a value above one bound and a value below another: a value lies between, or there are several
-- values.
use Rattle.std.proofs.Common.{◌≡◌, ℕ, zero, suc, ◌<◌, Bool, true, false, ◌&&◌, ◌||◌, List, [], ◌∷◌, ◌++◌, length, get_or, map, Vec, Global, refl, sym, ap, subst, ◌∙◌, inl, inr, arith}
use Rattle.std.specs.Prelude.{nat_lt}
use Rattle.std.proofs.lemmas.Bool.{lt-ltb}
use Rattle.std.specs.List.{list_any, list_all}
use Rattle.ldap_eval.specs.dir_entry.Entry.{KeyedAttribute}
use Rattle.dir_index.specs.index_choice.declared.kinds.Kinds.{Kinds}
use Rattle.dir_index.specs.index_choice.Choice.{kinds_of}
use Rattle.dir_index.specs.Postings.{is_of, has_type, has_several, some_key, is_from, is_upto, in_range}
use Rattle.dir_index.specs.declared.posting.Posting.TheVariants as posting
use Rattle.dir_index.specs.declared.posting.Range.{Range}
use Rattle.search_plans.specs.Sets.{holds}
use Rattle.search_plans.specs.private.Sides.{IsImplied, range_between, is_between}
use Rattle.search_plans.specs.declared.plan.Plan.{Plan}
use Rattle.search_plans.specs.declared.plan.Plan.TheVariants as plan
use Rattle.search_plans.proofs.PlanEquations.{in_plan-Posting, in_plan-Range, in_plan-Union}
use Rattle.search_plans.proofs.Standing.{and_parts, and_from, or_parts, or_left, or_right}

only : (b : Bool) → (b || false) ≡ true → b ≡ true
only true h = refl
only false h = h

some_has_type : (t : ℕ) (p : List ℕ → Bool) (e : List KeyedAttribute) → some_key t p e ≡ true → has_type t e ≡ true
some_has_type t p [] h = h
some_has_type t p (a ∷ e) h = elim (or_parts (is_of t a && list_any p a.keys) (some_key t p e) h) [
  | inl u ↦ let v = and_parts (is_of t a) (list_any p a.keys) u in or_left (is_of t a) (has_type t e) v.0
  | inr u ↦ or_right (is_of t a) (has_type t e) (some_has_type t p e u)
]

-- of one attribute
one_or_several : (p q : List ℕ → Bool) (ks : List (List ℕ)) → list_any p ks ≡ true → list_any q ks ≡ true →
    (list_any (λ x. p x && q x) ks || nat_lt 1 (length ks)) ≡ true
one_or_several p q [] h k = cc
one_or_several p q (x ∷ []) h k = or_left _ _ (or_left _ _ (and_from (p x) (q x) (only (p x) h) (only (q x) k)))
one_or_several p q (x ∷ y ∷ ks) h k = or_right (list_any (λ x. p x && q x) (x ∷ y ∷ ks))
    (nat_lt 1 (length (x ∷ y ∷ ks))) (lt-ltb 1 (length (x ∷ y ∷ ks)) (omega arith))

in_one : (a l s m t v : Bool) → a ≡ true → (l || m) ≡ true → (((a && l) || s) || ((a && (m || t)) || v)) ≡ true
in_one a l s m t v is h = elim (or_parts l m h) [
  | inl u ↦ or_left ((a && l) || s) _ (or_left (a && l) s (and_from a l is u))
  | inr u ↦ or_right ((a && l) || s) _ (or_left (a && (m || t)) v (and_from a (m || t) is (or_left m t u)))
]

in_two : (a l s m t v : Bool) → a ≡ true → t ≡ true → (((a && l) || s) || ((a && (m || t)) || v)) ≡ true
in_two a l s m t v is h = or_right ((a && l) || s) _
    (or_left (a && (m || t)) v (and_from a (m || t) is (or_right m t h)))

behind_it : (a l s m t v : Bool) → (s || v) ≡ true → (((a && l) || s) || ((a && (m || t)) || v)) ≡ true
behind_it a l s m t v h = elim (or_parts s v h) [
  | inl u ↦ or_left ((a && l) || s) _ (or_right (a && l) s u)
  | inr u ↦ or_right ((a && l) || s) _ (or_right (a && (m || t)) v u)
]

pub between_or_several : (t : ℕ) (p q : List ℕ → Bool) (e : List KeyedAttribute) → some_key t p e ≡ true →
    some_key t q e ≡ true
    → (some_key t (λ x. p x && q x) e || has_several t e) ≡ true
between_or_several t p q [] h k = cc
between_or_several t p q (a ∷ e) h k =
    let l = list_any (λ x. p x && q x) a.keys in
    let s = some_key t (λ x. p x && q x) e in
    let m = nat_lt 1 (length a.keys) in
    elim (or_parts (is_of t a && list_any p a.keys) (some_key t p e) h) [
      | inl u ↦ let here = and_parts (is_of t a) (list_any p a.keys) u in elim
          (or_parts (is_of t a && list_any q a.keys) (some_key t q e) k) [
            | inl v ↦ let there = and_parts (is_of t a) (list_any q a.keys) v in in_one (is_of t a) l s m (has_type t e)
                (has_several t e) here.0 (one_or_several p q a.keys here.1 there.1)
            | inr v ↦ in_two (is_of t a) l s m (has_type t e) (has_several t e) here.0 (some_has_type t q e v)
          ]
      | inr u ↦ elim (or_parts (is_of t a && list_any q a.keys) (some_key t q e) k) [
        | inl v ↦ let there = and_parts (is_of t a) (list_any q a.keys) v in in_two (is_of t a) l s m (has_type t e)
            (has_several t e) there.0 (some_has_type t p e u)
        | inr v ↦ behind_it (is_of t a) l s m (has_type t e) (has_several t e) (between_or_several t p q e u v)
      ]
    ]

any_weaker : (p q : List ℕ → Bool) → ((x : List ℕ) → p x ≡ true → q x ≡ true) → (ks : List (List ℕ)) → list_any p ks ≡
    true → list_any q ks ≡ true
any_weaker p q f [] h = h
any_weaker p q f (x ∷ ks) h = elim (or_parts (p x) (list_any p ks) h)
    [ inl u ↦ or_left (q x) _ (f x u) | inr u ↦ or_right (q x) _ (any_weaker p q f ks u) ]

some_weaker : (t : ℕ) (p q : List ℕ → Bool) → ((x : List ℕ) → p x ≡ true → q x ≡ true) → (e : List KeyedAttribute) →
    some_key t p e ≡ true → some_key t q e ≡ true
some_weaker t p q f [] h = h
some_weaker t p q f (a ∷ e) h = elim (or_parts (is_of t a && list_any p a.keys) (some_key t p e) h) [
  | inl u ↦ let v = and_parts (is_of t a) (list_any p a.keys) u in or_left (is_of t a && list_any q a.keys) _
      (and_from (is_of t a) (list_any q a.keys) v.0 (any_weaker p q f a.keys v.1))
  | inr u ↦ or_right (is_of t a && list_any q a.keys) _ (some_weaker t p q f e u)
]

both_within : (lower upper : Range) (x : List ℕ) → (in_range lower x && in_range upper x) ≡ true →
    in_range (range_between lower upper) x ≡ true
both_within lower upper x h =
    let both = and_parts (in_range lower x) (in_range upper x) h in
    and_from (is_from lower.from x) (is_upto upper.upto x) (and_parts (is_from lower.from x) (is_upto lower.upto x)
    both.0).0 (and_parts (is_from upper.from x) (is_upto upper.upto x) both.1).1

in_both : (k a b : Bool) → ((k && a) || ((k && b) || false)) ≡ (k && (a || b))
in_both true a true = refl
in_both true a false = refl
in_both false a b = refl

module _ (ix : List Kinds) (e : List KeyedAttribute) where
  of_range : (r : Range) → holds ix e (plan.Range r) ≡ true → ((kinds_of ix r.type_id).ordering ≡ true)
      × (some_key r.type_id (in_range r) e ≡ true)
  of_range r h = and_parts (kinds_of ix r.type_id).ordering (some_key r.type_id (in_range r) e)
      (sym (in_plan-Range _ _ _ r) ∙ h)

  pub between_is : (lower upper : Range) (v : Vec Plan Global) → v.items ≡ plan.Range (range_between lower upper) ∷
      plan.Posting (posting.Several lower.type_id) ∷ []
      → holds ix e (plan.Union v) ≡ is_between ix lower upper e
  between_is lower upper v is =
      let t = lower.type_id in
      let r = range_between lower upper in
      in_plan-Union _ _ _ v
      ∙ ap (λ (ps : List Plan). list_any (λ b. b) (map (holds ix e) ps)) is
      ∙ ap (λ (b : Bool). b || (holds ix e (plan.Posting (posting.Several t)) || false)) (in_plan-Range _ _ _ r)
      ∙ ap (λ (b : Bool). ((kinds_of ix t).ordering && some_key t (in_range r) e) || (b || false))
      (in_plan-Posting _ _ _ (posting.Several t))
      ∙ in_both (kinds_of ix t).ordering (some_key t (in_range r) e) (has_several t e)

  pub between_holds : (lower upper : Range) → upper.type_id ≡ lower.type_id → holds ix e (plan.Range lower) ≡ true →
      holds ix e (plan.Range upper) ≡ true → is_between ix lower upper e ≡ true
  between_holds lower upper same h k =
      let low = of_range lower h in
      let t = lower.type_id in
      let r = range_between lower upper in
      let high : some_key t (in_range upper) e ≡ true = subst (λ (u : ℕ). some_key u (in_range upper) e ≡ true) same
      (of_range upper k).1 in
      let found : (some_key t (in_range r) e || has_several t e) ≡ true =
      elim (or_parts (some_key t (λ x. in_range lower x && in_range upper x) e) (has_several t e)
      (between_or_several t (in_range lower) (in_range upper) e low.1 high)) [
        | inl u ↦ or_left (some_key t (in_range r) e) _ (some_weaker t _ (in_range r) (both_within lower upper) e u)
        | inr u ↦ or_right (some_key t (in_range r) e) _ u
      ] in
      and_from (kinds_of ix t).ordering (some_key t (in_range r) e || has_several t e) low.0 found

-- one plan more that all others imply
all_push : {X : Type 0} (p : X → Bool) (xs : List X) (x : X) → list_all p (xs ++ x ∷ []) ≡ (list_all p xs && p x)
all_push p [] x = elim (p x) as (λ v. (v && true) ≡ v) [ true ↦ refl | false ↦ refl ]
all_push p (y ∷ xs) x = elim (p y) as (λ v. (v && list_all p (xs ++ x ∷ [])) ≡ ((v && list_all p xs) && p x))
    [ true ↦ all_push p xs x | false ↦ refl ]

and_implied : (a b : Bool) → (a ≡ true → b ≡ true) → (a && b) ≡ a
and_implied true b f = f refl
and_implied false b f = refl

pub implied_push : (before after : List Plan) (p : Plan) → after ≡ before ++ p ∷ [] → IsImplied before p →
    (ix : List Kinds) (e : List KeyedAttribute)
    → list_all (holds ix e) after ≡ list_all (holds ix e) before
implied_push before after p is implied ix e =
    ap (list_all (holds ix e)) is ∙ all_push (holds ix e) before p ∙ and_implied (list_all (holds ix e) before)
    (holds ix e p) (implied ix e)

-- all hold, so each one does
all_one : {X : Type 0} (p : X → Bool) (xs : List X) (i : ℕ) (d : X) → i < length xs → list_all p xs ≡ true →
    p (get_or xs i d) ≡ true
all_one p [] i d lt h = absurd (omega arith)
all_one p (x ∷ xs) zero d lt h = (and_parts (p x) (list_all p xs) h).0
all_one p (x ∷ xs) (suc i) d lt h = all_one p xs i d (omega arith) (and_parts (p x) (list_all p xs) h).1

-- what one of some plans implies
pub implied_by_one : (ps : List Plan) (i : ℕ) (p q : Plan) → i < length ps → p ≡ get_or ps i p
    → ((ix : List Kinds) (e : List KeyedAttribute) → holds ix e p ≡ true → holds ix e q ≡ true) → IsImplied ps q
implied_by_one ps i p q lt is f ix e h = f ix e (ap (holds ix e) is ∙ all_one (holds ix e) ps i p lt h)
