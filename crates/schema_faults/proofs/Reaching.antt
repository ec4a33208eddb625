-- Classes that are reached one after the other, and the ways back to the first. Facts on lists come in and go out; no
-- value of the program is here.
use Rattle.std.proofs.Common.{◌≡◌, ◌++◌, ◌<◌, ◌≤◌, ◌⊎◌, inl, inr, ℕ, ◌+◌, List, [], ◌∷◌, Bool, true, false, cond, ◌||◌, ◌&&◌, Option, None, Some, option_map, length, get_or, set, slice_get, refl, sym, ap, ◌∙◌, subst, nat_eq, reverse, length-append, below_more, arith}
use Rattle.std.specs.List.{list_any, position_from, sum_by}
use Rattle.std.proofs.lemmas.List.{reverse-append, get_or_append_left, get_or_default, get_or_past, get_or-set_other, set-get_or, length-set}
use Rattle.std.proofs.lemmas.Option.{slice_get_within, get_or_from_slice_get, slice_get-get_or}
use Rattle.std.proofs.lemmas.List.Sums.{sum_by-set}
use Rattle.std.proofs.lemmas.Bool.Decides.{leb_tells, eqb_tells}
use Rattle.std.proofs.Math.Seq.{get_or-append_seam}
use Rattle.schema_meaning.specs.Naming.{find, calls, superior_texts}
use Rattle.schema_meaning.specs.schema_text.Descriptions.{DescriptionModel}
use Rattle.schema_faults.specs.declared.loops.Step.{Step}
use Rattle.schema_faults.specs.Loops.{is_it, is_calling, has_right_above, is_right_above, leads_along, leads_back, way_sentence, IsWayOf}
use Rattle.schema_faults.specs.private.Reaching.{ReachedModel, with_class, with_found, with_called, with_superiors, nowhere, class_at, IsOrder, IsAmongReached, IsReached}

pub carried : {A : Type 0} (P : A → Type 0) (x y : A) → x ≡ y → P y → P x
carried P x y e p = subst P (sym e) p

-- an order with more behind it
pub record Extends (a b : List Step) : Type 0 where
  pub longer : length a ≤ length b
  pub same : (i : ℕ) → i < length a → get_or b i nowhere ≡ get_or a i nowhere

extends_itself : (a : List Step) → Extends a a
extends_itself a = record { longer = omega arith; same = λ i h. refl }

extends_on : (a b d : List Step) → Extends a b → Extends b d → Extends a d
extends_on a b d p q = record {
  longer = omega arith;
  same = λ i h. let k : i < length b = omega arith in q.same i k ∙ p.same i h;
}

one_more : (a : List Step) (s : Step) → Extends a (a ++ s ∷ [])
one_more a s = record {
  longer = simp length-append (omega arith);
  same = λ i h. get_or_append_left a (s ∷ []) nowhere i h;
}

among_more : (a b : List Step) (u : ℕ) → Extends a b → IsAmongReached a u → IsAmongReached b u
among_more a b u p h = let k : h.0 < length b = omega arith in (h.0, k, ap (λ s. s.class) (p.same h.0 h.1) ∙ h.2)

-- a class that is reached from one before it
order_more : (classes : List DescriptionModel) (start u from : ℕ) (order : List Step) → IsOrder classes start order →
    from < length order
    → is_right_above classes (class_at order from) u ≡ true →
    IsOrder classes start (order ++ record { class = u; from = from } ∷ [])
order_more classes start u from order o lt up =
    let s : Step = record { class = u; from = from } in
    let more : List Step = order ++ s ∷ [] in
    let same : (i : ℕ) → i < length order → get_or more i nowhere ≡ get_or order i nowhere = λ i h. get_or_append_left
    order (s ∷ []) nowhere i h in
    let last : get_or more (length order) nowhere ≡ s = get_or-append_seam order s [] nowhere in
    let count : length more ≡ length order + 1 = simp length-append refl in
    record {
      some = omega arith;
      first = ap (λ (x : Step). x.class) (same 0 o.some) ∙ o.first;
      before = λ i pos h.
          let P : ℕ → Type 0 = λ k. 0 < k → (get_or more k nowhere).from < k in
          below_more P (length order) (λ k below p. let e : get_or more k nowhere ≡ get_or order k nowhere =
          same k below in let Q : Step → Type 0 = λ x. x.from < k in carried Q _ _ e (o.before k p below))
          (λ p. let Q : Step → Type 0 = λ x. x.from < length order in carried Q _ _ last lt)
          i (omega arith) pos;
      above = λ i pos h.
          let R : Step → Type 0 = λ x. is_right_above classes (class_at more x.from) x.class ≡ true in
          let P : ℕ → Type 0 = λ k. 0 < k → R (get_or more k nowhere) in
          below_more P (length order)
          (λ k below p.
          let near : (get_or order k nowhere).from < length order = omega (arith, o.before k p below) in
          let f : class_at more (get_or order k nowhere).from ≡ class_at order (get_or order k nowhere).from =
          ap (λ (x : Step). x.class) (same _ near) in
          let Q : ℕ → Type 0 = λ v. is_right_above classes v (class_at order k) ≡ true in
          carried R _ _ (same k below) (carried Q _ _ f (o.above k p below)))
          (λ p.
          let f : class_at more from ≡ class_at order from = ap (λ (x : Step). x.class) (same from lt) in
          let Q : ℕ → Type 0 = λ v. is_right_above classes v u ≡ true in
          carried R _ _ last (carried Q _ _ f up))
          i (omega arith) pos;
    }

-- how many classes were not reached
abbrev pub unseen : List Bool → ℕ
unseen l = sum_by (λ b. cond b 0 1) l

-- the classes with one that was reached before, or was not
abbrev pub made : ℕ → ReachedModel → ℕ → Bool → ReachedModel
made from r u b = record {
  order = cond b r.order (r.order ++ record { class = u; from = from } ∷ []);
  seen = set r.seen u true;
}

-- what stays as classes are reached
pub record GoesOn (classes : List DescriptionModel) (start place : ℕ) (r t : ReachedModel) : Type 0 where
  pub reached : IsReached classes start place t
  pub extends : Extends r.order t.order
  pub total : unseen t.seen + length t.order ≡ unseen r.seen + length r.order

already : (l : List Bool) (u : ℕ) → get_or l u true ≡ true → set l u true ≡ l
already l u e = ap (set l u) (sym e) ∙ set-get_or l u true

inside : (l : List Bool) (u : ℕ) → get_or l u true ≡ false → u < length l
inside l u e = elim (leb_tells (length l) u) [
  | inl h ↦ let past : get_or l u true ≡ true = get_or_past l u true h.1 in cc
  | inr h ↦ h.1
]

one_less : (l : List Bool) (u : ℕ) → get_or l u true ≡ false → unseen (set l u true) + 1 ≡ unseen l
one_less l u e =
    let f : Bool → ℕ = λ b. cond b 0 1 in
    let sums : unseen (set l u true) + f (get_or l u true) ≡ unseen l + 0 = sum_by-set f l u true true (inside l u e) in
    let here : f (get_or l u true) ≡ 1 = ap f e in
    omega (arith, sums, here)

among_last : (order : List Step) (from u : ℕ) → IsAmongReached (order ++ record { class = u; from = from } ∷ []) u
among_last order from u =
    let s : Step = record { class = u; from = from } in
    let lt : length order < length (order ++ s ∷ []) = simp length-append (omega arith) in
    (length order, lt, ap (λ (x : Step). x.class) (get_or-append_seam order s [] nowhere))

-- a class that was not reached before is then among those that were
seen_then : (r : ReachedModel) (from u v : ℕ) → ((w : ℕ) → get_or r.seen w false ≡ true → IsAmongReached r.order w) →
    get_or (set r.seen u true) v false ≡ true
    → IsAmongReached (r.order ++ record { class = u; from = from } ∷ []) v
seen_then r from u v before h = elim (eqb_tells v u) [
  | inl e ↦ let P : ℕ → Type 0 = λ w. IsAmongReached (r.order ++ record { class = u; from = from } ∷ []) w in carried
      P v u e.1 (among_last r.order from u)
  | inr e ↦ among_more r.order _ v (one_more r.order _) (before v (sym (get_or-set_other r.seen u v true false e.1)
      ∙ h))
]

reached_by : (classes : List DescriptionModel) (start place u : ℕ) (r : ReachedModel) (b : Bool) →
    get_or r.seen u true ≡ b → IsReached classes start place r → place < length r.order
    → is_right_above classes (class_at r.order place) u ≡ true → GoesOn classes start place r (made place r u b)
reached_by classes start place u r true e h lt up =
    let same : set r.seen u true ≡ r.seen = already r.seen u e in
    record {
      reached = record {
        order = h.order;
        count = ap length same ∙ h.count;
        seen = λ v s. h.seen v (sym (ap (λ (l : List Bool). get_or l v false) same) ∙ s);
        closed = h.closed;
        within = h.within;
      };
      extends = extends_itself r.order;
      total = ap (λ (l : List Bool). unseen l + length r.order) same;
    }
reached_by classes start place u r false e h lt up =
    let s : Step = record { class = u; from = place } in
    let more : Extends r.order (r.order ++ s ∷ []) = one_more r.order s in
    let count : length (r.order ++ s ∷ []) ≡ length r.order + 1 = simp length-append refl in
    let less : unseen (set r.seen u true) + 1 ≡ unseen r.seen = one_less r.seen u e in
    record {
      reached = record {
        order = order_more classes start u place r.order h.order lt up;
        count = length-set r.seen u true ∙ h.count;
        seen = λ v k. seen_then r place u v h.seen k;
        closed = λ i v below k above.
            let near : i < length r.order = omega (arith, h.within) in
            let P : ℕ → Type 0 = λ w. is_right_above classes w v ≡ true in
            let facts = h.closed i v below near (carried P _ _ (sym (ap (λ (x : Step). x.class) (more.same i near)))
            above) in
            (facts.0, among_more r.order _ v more facts.1);
        within = let w : place ≤ length r.order = h.within in omega arith;
      };
      extends = more;
      total = omega (arith, count, less);
    }

pub reached_one : (classes : List DescriptionModel) (start place u : ℕ) (r : ReachedModel) →
    IsReached classes start place r → place < length r.order
    → is_right_above classes (class_at r.order place) u ≡ true → GoesOn classes start place r (with_class place r u)
reached_one classes start place u r h lt up = reached_by classes start place u r (get_or r.seen u true) refl h lt up

among_by : (r : ReachedModel) (from u : ℕ) (b : Bool) → get_or r.seen u true ≡ b →
    ((w : ℕ) → get_or r.seen w false ≡ true → IsAmongReached r.order w) → u < length r.seen
    → IsAmongReached (made from r u b).order u
among_by r from u true e before lt = before u (get_or_default r.seen u false true lt ∙ e)
among_by r from u false e before lt = among_last r.order from u

among_one : (r : ReachedModel) (from u : ℕ) → ((w : ℕ) → get_or r.seen w false ≡ true → IsAmongReached r.order w) →
    u < length r.seen → IsAmongReached (with_class from r u).order u
among_one r from u before lt = among_by r from u (get_or r.seen u true) refl before lt

-- the classes that words call are reached
pub record Called (classes : List DescriptionModel) (start place : ℕ) (r t : ReachedModel) (ws : List (List ℕ)) :
    Type 0 where
  pub goes_on : GoesOn classes start place r t
  pub found : (u : ℕ) → u < length classes → list_any (is_calling classes u) ws ≡ true → IsAmongReached t.order u

or_right : (a b : Bool) → b ≡ true → (a || b) ≡ true
or_right true b e = refl
or_right false b e = e

or_left : (a b : Bool) → a ≡ true → (a || b) ≡ true
or_left true b e = refl
or_left false b e = cc

either : (a b : Bool) → (a || b) ≡ true → (a ≡ true) ⊎ (b ≡ true)
either true b e = inl refl
either false b e = inr e

it : (u : ℕ) (o : Option ℕ) → is_it u o ≡ true → o ≡ Some u
it u None e = cc
it u (Some v) e =
    let f : nat_eq u v ≡ true = e in
    elim (eqb_tells u v) [ inl h ↦ ap Some (sym h.1) | inr h ↦ let g : nat_eq u v ≡ false = h.0 in cc ]

it_is : (u : ℕ) → is_it u (Some u) ≡ true
it_is u = elim (eqb_tells u u) [ inl h ↦ h.0 | inr h ↦ absurd (h.1 refl) ]

abbrev called_in : List DescriptionModel → ℕ → ℕ → List (List ℕ) → ReachedModel → Type 0
called_in classes start place ws t =
    IsReached classes start place t → place < length t.order → ((u : ℕ) → list_any (is_calling classes u) ws ≡ true →
    is_right_above classes (class_at t.order place) u ≡ true)
    → Called classes start place t (with_called classes place t ws) ws

called_by : (classes : List DescriptionModel) (start place : ℕ) (r : ReachedModel) (w : List ℕ) (ws : List (List ℕ)) →
    ((t : ReachedModel) → called_in classes start place ws t)
    → IsReached classes start place r → place < length r.order
    → ((u : ℕ) → list_any (is_calling classes u) (w ∷ ws) ≡ true → is_right_above classes (class_at r.order place) u ≡
    true)
    → (o : Option ℕ) → find classes w ≡ o → Called classes start place r
    (with_called classes place (with_found place r o) ws) (w ∷ ws)
called_by classes start place r w ws on h lt up None e =
    let rest : Called classes start place r (with_called classes place r ws) ws =
    on r h lt (λ u k. up u (or_right _ _ k)) in
    record {
      goes_on = rest.goes_on;
      found = λ u k f. elim (either _ _ f)
          [ inl a ↦ let b : find classes w ≡ Some u = it u _ a in cc | inr a ↦ rest.found u k a ];
    }
called_by classes start place r w ws on h lt up (Some n) e =
    let above : is_right_above classes (class_at r.order place) n ≡ true =
    up n (or_left _ _ (ap (is_it n) e ∙ it_is n)) in
    let one : GoesOn classes start place r (with_class place r n) = reached_one classes start place n r h lt above in
    let far : place < length (with_class place r n).order = omega (arith, one.extends.longer) in
    let same : class_at (with_class place r n).order place ≡ class_at r.order place = ap (λ (x : Step). x.class)
    (one.extends.same place lt) in
    let rest : Called classes start place (with_class place r n) (with_called classes place (with_class place r n) ws)
    ws =
    on (with_class place r n) one.reached far
    (λ u k. let P : ℕ → Type 0 = λ v. is_right_above classes v u ≡ true in carried P _ _ same (up u (or_right _ _ k)))
    in
    record {
      goes_on = record {
        reached = rest.goes_on.reached;
        extends = extends_on _ _ _ one.extends rest.goes_on.extends;
        total = rest.goes_on.total ∙ one.total;
      };
      found = λ u k f. elim (either _ _ f) [
        | inl a ↦
            let b : Some n ≡ Some u = sym e ∙ it u _ a in
            let n_is : n ≡ u = cc in
            let known : u < length r.seen = omega (arith, h.count) in
            let Q : ℕ → Type 0 = λ v. IsAmongReached (with_class place r v).order u in
            among_more _ _ u rest.goes_on.extends (carried Q n u n_is (among_one r place u h.seen known))
        | inr a ↦ rest.found u k a
      ];
    }

pub called : (classes : List DescriptionModel) (start place : ℕ) (ws : List (List ℕ)) (r : ReachedModel) →
    called_in classes start place ws r
called classes start place [] r h lt up = record {
  goes_on = record { reached = h; extends = extends_itself r.order; total = refl };
  found = λ u k e. cc;
}
called classes start place (w ∷ ws) r h lt up =
    called_by classes start place r w ws (λ t. called classes start place ws t) h lt up (find classes w) refl

bound_by : {K : Type 0} (p : K → Bool) (k : ℕ) (x : K) (xs : List K) (n : ℕ) (b : Bool) → p x ≡ b →
    cond (p x) (Some k) (position_from p (k + 1) xs) ≡ Some n
    → (position_from p (k + 1) xs ≡ Some n → n < k + 1 + length xs) → n < k + length (x ∷ xs)
bound_by p k x xs n true f e rest =
    let at : Some k ≡ Some n = sym (ap (λ (b : Bool). cond b (Some k) (position_from p (k + 1) xs)) f) ∙ e in
    let is : k ≡ n = cc in
    omega arith
bound_by p k x xs n false f e rest =
    let at : position_from p (k + 1) xs ≡ Some n =
    sym (ap (λ (b : Bool). cond b (Some k) (position_from p (k + 1) xs)) f) ∙ e in
    let less : n < k + 1 + length xs = rest at in
    omega arith

-- a number that a search finds is one of the list's
position_bound : {K : Type 0} (p : K → Bool) (k : ℕ) (xs : List K) (n : ℕ) → position_from p k xs ≡ Some n →
    n < k + length xs
position_bound p k [] n e = cc
position_bound p k (x ∷ xs) n e = bound_by p k x xs n (p x) refl e (λ at. position_bound p (k + 1) xs n at)

called_bound : (classes : List DescriptionModel) (u : ℕ) (ws : List (List ℕ)) → list_any (is_calling classes u) ws ≡
    true → u < length classes
called_bound classes u [] e = cc
called_bound classes u (w ∷ ws) e = elim (either _ _ e) [
  | inl a ↦ omega (arith, position_bound (calls w) 0 classes u (it u _ a))
  | inr a ↦ called_bound classes u ws a
]

-- the classes that the SUP of the class at a place names are reached, and the place is done
pub stepped : (classes : List DescriptionModel) (start place c_at : ℕ) (r : ReachedModel) →
    IsReached classes start place r → place < length r.order
    → class_at r.order place ≡ c_at → is_right_above classes c_at start ≡ false
    → IsReached classes start (place + 1) (with_superiors classes place r (slice_get classes c_at))
    × (unseen (with_superiors classes place r (slice_get classes c_at)).seen + length (with_superiors classes place r
    (slice_get classes c_at)).order ≡ unseen r.seen + length r.order)
stepped classes start place c_at r h lt at none = by_class (slice_get classes c_at) refl
  where
    to_start : (v u : ℕ) → v ≡ c_at → is_right_above classes v u ≡ true → u ≡ start → ⊥
    to_start v u e up is =
        let P : ℕ → Type 0 = λ w. is_right_above classes w u ≡ true in
        let Q : ℕ → Type 0 = λ w. is_right_above classes c_at w ≡ true in
        let k : is_right_above classes c_at start ≡ true = carried Q start u (sym is) (carried P c_at v (sym e) up) in
        cc

    by_class : (o : Option DescriptionModel) → slice_get classes c_at ≡ o
        → IsReached classes start (place + 1) (with_superiors classes place r o)
        × (unseen (with_superiors classes place r o).seen + length (with_superiors classes place r o).order ≡
        unseen r.seen + length r.order)
    by_class None e = (
      record {
        order = h.order;
        count = h.count;
        seen = h.seen;
        closed = λ i u below near up.
            let P : ℕ → Type 0 = λ k. is_right_above classes (class_at r.order k) u ≡ true → (u ≡ start → ⊥)
            × IsAmongReached r.order u in
            below_more P place (λ k under f. let inner : k < length r.order = omega arith in h.closed k u under inner f)
            (λ f.
            let Q : ℕ → Type 0 = λ w. is_right_above classes w u ≡ true in
            let k : is_right_above classes c_at u ≡ true = carried Q c_at _ (sym at) f in
            let m : is_right_above classes c_at u ≡ false = ap (λ (d : Option DescriptionModel). has_right_above
            classes d u) e in
            cc)
            i below up;
        within = omega arith;
      },
      refl,
    )
    by_class (Some d) e =
        let names : (u : ℕ) → is_right_above classes c_at u ≡ list_any (is_calling classes u) (superior_texts d) =
        λ u. ap (λ (x : Option DescriptionModel). has_right_above classes x u) e in
        let Q : ℕ → ℕ → Type 0 = λ u w. is_right_above classes w u ≡ true in
        let all : Called classes start place r (with_called classes place r (superior_texts d)) (superior_texts d) =
        called classes start place (superior_texts d) r h lt (λ u k. carried (Q u) _ _ at (names u ∙ k))
        in
        let t : ReachedModel = with_called classes place r (superior_texts d) in
        let here : class_at t.order place ≡ c_at = ap (λ (x : Step). x.class) (all.goes_on.extends.same place lt)
        ∙ at in (
          record {
            order = all.goes_on.reached.order;
            count = all.goes_on.reached.count;
            seen = all.goes_on.reached.seen;
            closed = λ i u below near up.
                let P : ℕ → Type 0 = λ k. k < length t.order → is_right_above classes (class_at t.order k) u ≡ true →
                (u ≡ start → ⊥) × IsAmongReached t.order u in
                below_more P place (λ k under inner f. all.goes_on.reached.closed k u under inner f)
                (λ inner f.
                let m : list_any (is_calling classes u) (superior_texts d) ≡ true = sym (names u)
                ∙ carried (Q u) c_at _ (sym here) f in
                (to_start _ u here f, all.found u (called_bound classes u (superior_texts d) m) m))
                i below near up;
            within = omega (arith, all.goes_on.extends.longer);
          },
          all.goes_on.total,
        )

leads_by : (classes : List DescriptionModel) (start place : ℕ) (r : ReachedModel) → IsReached classes start place r →
    length r.order ≤ place
    → (v u : ℕ) (us : List ℕ) → IsAmongReached r.order v → (b : Bool) → is_right_above classes v u ≡ b
    → (IsAmongReached r.order u → leads_along classes u (us ++ start ∷ []) ≡ false) →
    (b && leads_along classes u (us ++ start ∷ [])) ≡ false
leads_by classes start place r h end v u us a false e rest = refl
leads_by classes start place r h end v u us a true e rest =
    let P : ℕ → Type 0 = λ w. is_right_above classes w u ≡ true in
    let under : a.0 < place = omega (arith, a.1) in
    rest (h.closed a.0 u under a.1 (carried P _ _ a.2 e)).1

-- where no class is left, no way leads back
leads_no_more : (classes : List DescriptionModel) (start place : ℕ) (r : ReachedModel) → IsReached classes start place
    r → length r.order ≤ place
    → (v : ℕ) (between : List ℕ) → IsAmongReached r.order v → leads_along classes v (between ++ start ∷ []) ≡ false
leads_no_more classes start place r h end v [] a = by_test (is_right_above classes v start) refl
  where
    by_test : (b : Bool) → is_right_above classes v start ≡ b → (b && true) ≡ false
    by_test false e = refl
    by_test true e =
        let P : ℕ → Type 0 = λ w. is_right_above classes w start ≡ true in
        let under : a.0 < place = omega (arith, a.1) in
        absurd ((h.closed a.0 start under a.1 (carried P _ _ a.2 e)).0 refl)
leads_no_more classes start place r h end v (u ∷ us) a =
    leads_by classes start place r h end v u us a (is_right_above classes v u) refl (λ k. leads_no_more classes start
    place r h end u us k)

pub no_way : (classes : List DescriptionModel) (start place : ℕ) (r : ReachedModel) → IsReached classes start place
    r → length r.order ≤ place
    → (between : List ℕ) → leads_back classes start between ≡ false
no_way classes start place r h end between = leads_no_more classes start place r h end start between
    (0, h.order.some, h.order.first)

-- numbers, the last first, are a way from the class at a place to the start
abbrev pub IsWayTo : List DescriptionModel → ℕ → List Step → ℕ → List ℕ → Type 0
IsWayTo classes start order place numbers =
    (between : List ℕ) × (reverse numbers ≡ between ++ start ∷ [])
    × (leads_along classes (class_at order place) (between ++ start ∷ []) ≡ true)

both : (a b : Bool) → a ≡ true → b ≡ true → (a && b) ≡ true
both true b e f = f
both false b e f = cc

-- the way from the last class
pub way_first : (classes : List DescriptionModel) (start : ℕ) (order : List Step) (place : ℕ) (numbers : List ℕ) →
    numbers ≡ start ∷ []
    → is_right_above classes (class_at order place) start ≡ true → IsWayTo classes start order place numbers
way_first classes start order place numbers e up = ([], ap reverse e, both _ _ up refl)

reverse_more : (numbers : List ℕ) (v : ℕ) → reverse (numbers ++ v ∷ []) ≡ v ∷ reverse numbers
reverse_more numbers v = reverse-append numbers (v ∷ [])

-- the way from the class that it was reached from
pub way_more : (classes : List DescriptionModel) (start : ℕ) (order : List Step) (place v from : ℕ)
    (numbers more : List ℕ) → IsOrder classes start order → 0 < place
    → place < length order → v ≡ class_at order place → from ≡ (get_or order place nowhere).from →
    more ≡ numbers ++ v ∷ []
    → IsWayTo classes start order place numbers → IsWayTo classes start order from more
way_more classes start order place v from numbers more o pos lt is came e w =
    let P : ℕ → Type 0 = λ k. is_right_above classes (class_at order k) v ≡ true in
    let Q : ℕ → Type 0 = λ k. is_right_above classes (class_at order (get_or order place nowhere).from) k ≡ true in
    let R : ℕ → Type 0 = λ k. leads_along classes k (w.0 ++ start ∷ []) ≡ true in
    let up : is_right_above classes (class_at order from) v ≡ true = carried P _ _ came
    (carried Q _ _ is (o.above place pos lt)) in (
      v ∷ w.0,
      ap reverse e ∙ reverse_more numbers v ∙ ap (λ (l : List ℕ). v ∷ l) w.1,
      both _ _ up (carried R _ _ is
          w.2),
    )

pub from_within : (classes : List DescriptionModel) (start : ℕ) (order : List Step) (place from : ℕ) →
    IsOrder classes start order → 0 < place → place < length order
    → from ≡ (get_or order place nowhere).from → (from < place) × (from < length order)
from_within classes start order place from o pos lt came =
    let less : (get_or order place nowhere).from < place = o.before place pos lt in
    let P : ℕ → Type 0 = λ k. k < place in
    let k : from < place = carried P _ _ came less in
    (k, omega arith)

-- the whole way
pub way_done : (classes : List DescriptionModel) (start : ℕ) (order : List Step) (place : ℕ) (numbers all sentence :
    List ℕ) → IsOrder classes start order → place ≡ 0
    → all ≡ reverse (numbers ++ start ∷ []) → sentence ≡ way_sentence classes all → IsWayTo classes start order place
    numbers → IsWayOf classes start sentence
way_done classes start order place numbers all sentence o zero_is e told w =
    let P : ℕ → Type 0 = λ k. leads_along classes k (w.0 ++ start ∷ []) ≡ true in
    let first : class_at order place ≡ start = ap (class_at order) zero_is ∙ o.first in
    let whole : all ≡ start ∷ w.0 ++ start ∷ [] = e ∙ reverse_more numbers start ∙ ap (λ (l : List ℕ). start ∷ l) w.1 in
    (w.0, carried P _ _ (sym first) w.2, told ∙ ap (way_sentence classes) whole)

found_by : (order : List Step) (place v : ℕ) (o : Option Step) → slice_get order place ≡ o →
    Some v ≡ option_map (λ (s : Step). s.class) o
    → (place < length order) × (class_at order place ≡ v)
found_by order place v None f e = cc
found_by order place v (Some s) f e =
    let g : Some v ≡ Some s.class = e in
    let h : s.class ≡ v = cc in
    (slice_get_within order place s f, ap (λ (x : Step). x.class) (get_or_from_slice_get order place s nowhere f) ∙ h)

-- the class at a place, where there is one
pub found_at : (order : List Step) (place v : ℕ) → Some v ≡ option_map (λ (s : Step). s.class)
    (slice_get order place) → (place < length order) × (class_at order place ≡ v)
found_at order place v e = found_by order place v (slice_get order place) refl e

pub none_at : (order : List Step) (place : ℕ) → None ≡ option_map (λ (s : Step). s.class) (slice_get order place) →
    length order ≤ place
none_at order place e = elim (leb_tells (length order) place) [
  | inl h ↦ h.1
  | inr h ↦
      let f : option_map (λ (s : Step). s.class) (slice_get order place) ≡ Some (get_or order place nowhere).class =
      ap (option_map (λ (s : Step). s.class)) (slice_get-get_or order place nowhere h.1) in
      cc
]
