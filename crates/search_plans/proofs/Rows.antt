-- What bounds the parts bounds the whole.
use Rattle.std.proofs.Common.{◌≡◌, ℕ, ◌+◌, ◌<◌, Bool, true, false, ◌&&◌, ◌||◌, not, List, [], ◌∷◌, ◌++◌, length, take, get_or, map, Result, Ok, Err, IfOk, refl, sym, ap, ap₂, ◌∙◌, ◌⊎◌, inl, inr}
use Rattle.std.proofs.lemmas.List.{take_more}
use Rattle.std.specs.List.{list_any, list_all}
use Rattle.ldap_eval.specs.ldap_match.Truth.{truth_and, truth_or, truth_not, truth_of, conjunction, disjunction}
use Rattle.ldap_eval.specs.ldap_match.declared.truth.Truth.{Truth}
use Rattle.ldap_eval.specs.ldap_match.declared.truth.Truth.TheVariants.{True, False, Undefined}
use Rattle.ldap_eval.specs.dir_entry.Entry.{KeyedAttribute}
use Rattle.ldap_eval.specs.dir_entry.ldap_dn.Names.{RdnModel}
use Rattle.dir_index.specs.index_choice.declared.kinds.Kinds.{Kinds}
use Rattle.search_plans.specs.Sets.{holds}
use Rattle.search_plans.specs.declared.plan.Plan.{Plan}
use Rattle.ldap_eval.specs.Bound.{bound_value}
use Rattle.ldap_eval.specs.declared.bound.BoundFilter.{BoundFilter}
use Rattle.search_plans.specs.Bounds.{is_decided, IsBetween, DecidedAreTrue}
use Rattle.search_plans.specs.OctetRuns.{has_runs_for}
use Rattle.search_plans.specs.private.Sides.{IsSide, EachSide, none, one_more}
pub use Rattle.search_plans.proofs.Standing.{and_parts}
pub use Rattle.search_plans.proofs.Standing.{and_from}
pub use Rattle.search_plans.proofs.Standing.{or_parts}
pub use Rattle.search_plans.proofs.Standing.{or_left}
pub use Rattle.search_plans.proofs.Standing.{or_right}

and-true : (v w : Truth) → truth_and v w ≡ True → (v ≡ True) × (w ≡ True)
and-true True w h = (refl, h)
and-true False w h = cc
and-true Undefined True h = cc
and-true Undefined False h = cc
and-true Undefined Undefined h = cc

and-false : (v w : Truth) → truth_and v w ≡ False → (v ≡ False) ⊎ (w ≡ False)
and-false True w h = inr h
and-false False w h = inl refl
and-false Undefined True h = cc
and-false Undefined False h = inr refl
and-false Undefined Undefined h = cc

or-true : (v w : Truth) → truth_or v w ≡ True → (v ≡ True) ⊎ (w ≡ True)
or-true True w h = inl refl
or-true False w h = inr h
or-true Undefined True h = inr refl
or-true Undefined False h = cc
or-true Undefined Undefined h = cc

or-false : (v w : Truth) → truth_or v w ≡ False → (v ≡ False) × (w ≡ False)
or-false True w h = cc
or-false False w h = (refl, h)
or-false Undefined True h = cc
or-false Undefined False h = cc
or-false Undefined Undefined h = cc

false_and : (v w : Truth) → (v ≡ False) ⊎ (w ≡ False) → truth_and v w ≡ False
false_and v w (inl e) = rw e
false_and True w (inr e) = e
false_and False w (inr e) = refl
false_and Undefined w (inr e) = rw e

true_or : (v w : Truth) → (v ≡ True) ⊎ (w ≡ True) → truth_or v w ≡ True
true_or v w (inl e) = rw e
true_or True w (inr e) = refl
true_or False w (inr e) = e
true_or Undefined w (inr e) = rw e

both_true : (m n y z d k : Bool) (v w : Truth) → IsBetween m v True y d → IsBetween n w True z k →
    IsBetween (m && n) (truth_and v w) True (y && z) (d && k)
both_true m n y z d k v w a b = record {
  sound = λ h. let p = and_parts m n h in ap₂ truth_and (a.sound p.0) (b.sound p.1);
  complete = λ h. let p = and-true v w h in and_from y z (a.complete p.0) (b.complete p.1);
  exact = λ h g. let p = and_parts d k h in let q = and_parts y z g in and_from m n (a.exact p.0 q.0) (b.exact p.1 q.1);
}

both_false : (m n y z d k : Bool) (v w : Truth) → IsBetween m v False y d → IsBetween n w False z k →
    IsBetween (m && n) (truth_or v w) False (y && z) (d && k)
both_false m n y z d k v w a b = record {
  sound = λ h. let p = and_parts m n h in ap₂ truth_or (a.sound p.0) (b.sound p.1);
  complete = λ h. let p = or-false v w h in and_from y z (a.complete p.0) (b.complete p.1);
  exact = λ h g. let p = and_parts d k h in let q = and_parts y z g in and_from m n (a.exact p.0 q.0) (b.exact p.1 q.1);
}

one_false : (m n y z d k : Bool) (v w : Truth) → IsBetween m v False y d → IsBetween n w False z k →
    IsBetween (m || n) (truth_and v w) False (y || z) (d && k)
one_false m n y z d k v w a b = record {
  sound = λ h. false_and v w (elim (or_parts m n h) [ inl p ↦ inl (a.sound p) | inr p ↦ inr (b.sound p) ]);
  complete = λ h. elim (and-false v w h) [ inl p ↦ or_left y z (a.complete p) | inr p ↦ or_right y z (b.complete p) ];
  exact = λ h g. let p = and_parts d k h in elim (or_parts y z g)
      [ inl q ↦ or_left m n (a.exact p.0 q) | inr q ↦ or_right m n (b.exact p.1 q) ];
}

one_true : (m n y z d k : Bool) (v w : Truth) → IsBetween m v True y d → IsBetween n w True z k →
    IsBetween (m || n) (truth_or v w) True (y || z) (d && k)
one_true m n y z d k v w a b = record {
  sound = λ h. true_or v w (elim (or_parts m n h) [ inl p ↦ inl (a.sound p) | inr p ↦ inr (b.sound p) ]);
  complete = λ h. elim (or-true v w h) [ inl p ↦ or_left y z (a.complete p) | inr p ↦ or_right y z (b.complete p) ];
  exact = λ h g. let p = and_parts d k h in elim (or_parts y z g)
      [ inl q ↦ or_left m n (a.exact p.0 q) | inr q ↦ or_right m n (b.exact p.1 q) ];
}

abbrev pub all : List Bool → Bool
all bs = list_all (λ b. b) bs

abbrev pub any : List Bool → Bool
any bs = list_any (λ b. b) bs

pub and_of_true : {ix : List Kinds} {fs : List BoundFilter} {ms ys : List Plan} → EachSide ix true fs ms ys
    → (n : List RdnModel) (e : List KeyedAttribute) → IsBetween (all (map (holds ix e) ms))
    (conjunction (map (bound_value n e) fs)) True (all (map (holds ix e) ys)) (all (map (is_decided ix) fs))
and_of_true none n e = record { sound = λ h. refl; complete = λ h. refl; exact = λ h g. refl }
and_of_true (one_more b rest) n e = both_true _ _ _ _ _ _ _ _ (b.bounds n e) (and_of_true rest n e)

pub or_of_false : {ix : List Kinds} {fs : List BoundFilter} {ms ys : List Plan} → EachSide ix false fs ms ys
    → (n : List RdnModel) (e : List KeyedAttribute) → IsBetween (all (map (holds ix e) ms))
    (disjunction (map (bound_value n e) fs)) False (all (map (holds ix e) ys)) (all (map (is_decided ix) fs))
or_of_false none n e = record { sound = λ h. refl; complete = λ h. refl; exact = λ h g. refl }
or_of_false (one_more b rest) n e = both_false _ _ _ _ _ _ _ _ (b.bounds n e) (or_of_false rest n e)

pub and_of_false : {ix : List Kinds} {fs : List BoundFilter} {ms ys : List Plan} → EachSide ix false fs ms ys
    → (n : List RdnModel) (e : List KeyedAttribute) → IsBetween (any (map (holds ix e) ms))
    (conjunction (map (bound_value n e) fs)) False (any (map (holds ix e) ys)) (all (map (is_decided ix) fs))
and_of_false none n e = record { sound = λ h. cc; complete = λ h. cc; exact = λ h g. g }
and_of_false (one_more b rest) n e = one_false _ _ _ _ _ _ _ _ (b.bounds n e) (and_of_false rest n e)

pub or_of_true : {ix : List Kinds} {fs : List BoundFilter} {ms ys : List Plan} → EachSide ix true fs ms ys
    → (n : List RdnModel) (e : List KeyedAttribute) → IsBetween (any (map (holds ix e) ms))
    (disjunction (map (bound_value n e) fs)) True (any (map (holds ix e) ys)) (all (map (is_decided ix) fs))
or_of_true none n e = record { sound = λ h. cc; complete = λ h. cc; exact = λ h g. g }
or_of_true (one_more b rest) n e = one_true _ _ _ _ _ _ _ _ (b.bounds n e) (or_of_true rest n e)

-- what may be true of each part has each part's runs
pub runs_of_every : {ix : List Kinds} {fs : List BoundFilter} {ms ys : List Plan} → EachSide ix true fs ms ys
    → (e : List KeyedAttribute) → all (map (holds ix e) ys) ≡ true → all (map (has_runs_for ix e) fs) ≡ true
runs_of_every none e h = refl
runs_of_every (one_more b rest) e h = let u = and_parts _ _ h in and_from _ _ (b.runs refl e u.0)
    (runs_of_every rest e u.1)

-- what may be true of some part has some part's runs
pub runs_of_some : {ix : List Kinds} {fs : List BoundFilter} {ms ys : List Plan} → EachSide ix true fs ms ys
    → (e : List KeyedAttribute) → any (map (holds ix e) ys) ≡ true → any (map (has_runs_for ix e) fs) ≡ true
runs_of_some none e h = cc
runs_of_some (one_more b rest) e h = elim (or_parts _ _ h)
    [ inl u ↦ or_left _ _ (b.runs refl e u) | inr u ↦ or_right _ _ (runs_of_some rest e u) ]

not-true : (v : Truth) → truth_not v ≡ True → v ≡ False
not-true True h = cc
not-true False h = refl
not-true Undefined h = cc

not-false : (v : Truth) → truth_not v ≡ False → v ≡ True
not-false True h = refl
not-false False h = cc
not-false Undefined h = cc

-- the negation has a value where the filter has the other
pub negated : (m y d : Bool) (v : Truth) (wanted : Bool) → IsBetween m v (truth_of (not wanted)) y d →
    IsBetween m (truth_not v) (truth_of wanted) y d
negated m y d v true a = record {
  sound = λ h. ap truth_not (a.sound h);
  complete = λ h. a.complete (not-true v h);
  exact = a.exact;
}
negated m y d v false a = record {
  sound = λ h. ap truth_not (a.sound h);
  complete = λ h. a.complete (not-false v h);
  exact = a.exact;
}

each_push : {ix : List Kinds} {wanted : Bool} {fs : List BoundFilter} {ms ys : List Plan} (f : BoundFilter) (m y : Plan)
    → EachSide ix wanted fs ms ys → IsSide ix wanted f m y → EachSide ix wanted (fs ++ f ∷ []) (ms ++ m ∷ [])
    (ys ++ y ∷ [])
each_push f m y none b = one_more b none
each_push f m y (one_more a rest) b = one_more a (each_push f m y rest b)

pub if_ok_weaker : {A E : Type 0} (P Q : A → Type 0) → ((x : A) → P x → Q x) → (r : Result A E) → IfOk r P → IfOk r Q
if_ok_weaker P Q f (Ok x) h = f x h
if_ok_weaker P Q f (Err e) h = tt

pub each_step : (ix : List Kinds) (wanted : Bool) (all_fs : List BoundFilter) (i : ℕ) (f : BoundFilter)
    (ms ys ms' ys' : List Plan) (m y : Plan)
    → EachSide ix wanted (take i all_fs) ms ys → i < length all_fs → f ≡ get_or all_fs i f → IsSide ix wanted f m y
    → ms' ≡ ms ++ m ∷ [] → ys' ≡ ys ++ y ∷ [] → EachSide ix wanted (take (i + 1) all_fs) ms' ys'
each_step ix wanted all_fs i f ms ys ms' ys' m y each lt is b em ey =
    let more : take (i + 1) all_fs ≡ take i all_fs ++ f ∷ [] = take_more all_fs i f lt
    ∙ ap (λ (x : BoundFilter). take i all_fs ++ x ∷ []) (sym is) in
    rw (more, em, ey) (each_push f m y each b)

-- What may be true of an `and` is true of each decided part.
pub decided_parts : {ix : List Kinds} {fs : List BoundFilter} {ms ys : List Plan} → EachSide ix true fs ms ys
    → (n : List RdnModel) (e : List KeyedAttribute) → all (map (holds ix e) ys) ≡ true → DecidedAreTrue ix n e fs
decided_parts none n e h = tt
decided_parts (one_more b rest) n e h = let u = and_parts _ _ h
    in ((λ d. (b.bounds n e).sound ((b.bounds n e).exact d u.0)), decided_parts rest n e u.1)
