-- The sides of a filter, by its variant.
use Rattle.std.proofs.Common.{◌≡◌, Bool, true, false, not, List, Vec, Box, Global, map, refl, sym, ap, subst, ◌∙◌}
use Rattle.std.proofs.lemmas.List.Folds.{list_all-map}
use Rattle.std.specs.List.{list_all}
use Rattle.ldap_eval.specs.ldap_match.declared.truth.Truth.{Truth}
use Rattle.ldap_eval.specs.ldap_match.declared.truth.Truth.TheVariants.{True, False}
use Rattle.ldap_eval.specs.dir_entry.Entry.{KeyedAttribute}
use Rattle.ldap_eval.specs.dir_entry.ldap_dn.Names.{RdnModel}
use Rattle.dir_index.specs.index_choice.declared.kinds.Kinds.{Kinds}
use Rattle.ldap_eval.specs.Bound.{bound_value}
use Rattle.search_plans.specs.Sets.{holds, SetsAreOfEntries}
use Rattle.search_plans.specs.declared.plan.Plan.{Plan}
use Rattle.search_plans.specs.declared.plan.Plan.TheVariants as plan
use Rattle.search_plans.proofs.PlanEquations.{in_plan-Inter, in_plan-Union}
use Rattle.ldap_eval.specs.declared.bound.BoundFilter.{BoundFilter, out-BoundFilter, out-roll-BoundFilter}
use Rattle.ldap_eval.specs.declared.bound.BoundFilter.TheVariants.{rolls-And}
use Rattle.ldap_eval.specs.declared.bound.BoundFilter.TheOpen.{BoundFilter-F}
use Rattle.ldap_eval.specs.declared.bound.BoundFilter.TheVariants as bound
use Rattle.search_plans.specs.Bounds.{Bounds, BoundsSets, DecidedAreTrue, GuidesRuns, IsBetween, is_decided}
use Rattle.search_plans.specs.private.Sides.{IsSide, IsEvery, IsAny, EachSide}
use Rattle.search_plans.proofs.FilterEquations.{value-And, value-Or, value-Not, decided-And, decided-Or, decided-Not, runs-And, runs-Or, runs-Not}
use Rattle.search_plans.proofs.Rows.{all, and_of_true, and_of_false, or_of_true, or_of_false, runs_of_every, runs_of_some, negated, decided_parts}

-- what may be holds where all parts do
all_hold : (ix : List Kinds) (ys : List Plan) (y : Plan) → ((e : List KeyedAttribute) → holds ix e y ≡
    list_all (holds ix e) ys) → (e : List KeyedAttribute) → holds ix e y ≡ all (map (holds ix e) ys)
all_hold ix ys y is e = is e ∙ sym (list_all-map (λ b. b) (holds ix e) ys)

every_true : (ix : List Kinds) (v : Vec BoundFilter Global) (ms : Vec Plan Global) (ys : List Plan) (y : Plan) →
    ((e : List KeyedAttribute) → holds ix e y ≡ list_all (holds ix e) ys)
    → EachSide ix true v.items ms.items ys → IsSide ix true (bound.And v) (plan.Inter ms) y
every_true ix v ms ys y is each = record {
  bounds = λ n e. subst (λ (b : Bool). IsBetween (holds ix e (plan.Inter ms)) (bound_value n e (bound.And v)) True b
      (is_decided ix (bound.And v))) (sym (all_hold ix ys y is e)) (simp (value-And, decided-And, in_plan-Inter)
      (and_of_true each n e));
  runs = λ w e h. runs-And ix e v ∙ runs_of_every each e (sym (all_hold ix ys y is e) ∙ h);
}

some_false : (ix : List Kinds) (v : Vec BoundFilter Global) (ms ys : Vec Plan Global) → EachSide ix false v.items
    ms.items ys.items → IsSide ix false (bound.And v) (plan.Union ms) (plan.Union ys)
some_false ix v ms ys each = record {
  bounds = λ n e. simp (value-And, decided-And, in_plan-Union) (and_of_false each n e);
  runs = λ w e h. cc;
}

some_true : (ix : List Kinds) (v : Vec BoundFilter Global) (ms ys : Vec Plan Global) →
    EachSide ix true v.items ms.items ys.items → IsSide ix true (bound.Or v) (plan.Union ms) (plan.Union ys)
some_true ix v ms ys each = record {
  bounds = λ n e. simp (value-Or, decided-Or, in_plan-Union) (or_of_true each n e);
  runs = λ w e h. runs-Or ix e v ∙ runs_of_some each e (sym (in_plan-Union _ _ _ ys) ∙ h);
}

every_false : (ix : List Kinds) (v : Vec BoundFilter Global) (ms : Vec Plan Global) (ys : List Plan) (y : Plan) →
    ((e : List KeyedAttribute) → holds ix e y ≡ list_all (holds ix e) ys)
    → EachSide ix false v.items ms.items ys → IsSide ix false (bound.Or v) (plan.Inter ms) y
every_false ix v ms ys y is each = record {
  bounds = λ n e. subst (λ (b : Bool). IsBetween (holds ix e (plan.Inter ms)) (bound_value n e (bound.Or v)) False b
      (is_decided ix (bound.Or v))) (sym (all_hold ix ys y is e)) (simp (value-Or, decided-Or, in_plan-Inter)
      (or_of_false each n e));
  runs = λ w e h. cc;
}

pub side_of_and_true : (ix : List Kinds) (wanted : Bool) (f : BoundFilter) (v : Vec BoundFilter Global) (m y : Plan) →
    f ≡ bound.And v → wanted ≡ true → IsEvery ix wanted v.items m y → IsSide ix wanted f m y
side_of_and_true ix wanted f v m y is w s =
    let each = rw w at s.each in rw (is, w, s.must_is) (every_true ix v s.musts s.mays y s.may_holds each)

pub side_of_and_false : (ix : List Kinds) (wanted : Bool) (f : BoundFilter) (v : Vec BoundFilter Global)
    (m y : Plan) → f ≡ bound.And v → wanted ≡ false → IsAny ix wanted v.items m y → IsSide ix wanted f m y
side_of_and_false ix wanted f v m y is w s =
    let each = rw w at s.each in rw (is, w, s.must_is, s.may_is) (some_false ix v s.musts s.mays each)

pub side_of_or_true : (ix : List Kinds) (wanted : Bool) (f : BoundFilter) (v : Vec BoundFilter Global) (m y : Plan) →
    f ≡ bound.Or v → wanted ≡ true → IsAny ix wanted v.items m y → IsSide ix wanted f m y
side_of_or_true ix wanted f v m y is w s =
    let each = rw w at s.each in rw (is, w, s.must_is, s.may_is) (some_true ix v s.musts s.mays each)

pub side_of_or_false : (ix : List Kinds) (wanted : Bool) (f : BoundFilter) (v : Vec BoundFilter Global) (m y : Plan) →
    f ≡ bound.Or v → wanted ≡ false → IsEvery ix wanted v.items m y → IsSide ix wanted f m y
side_of_or_false ix wanted f v m y is w s =
    let each = rw w at s.each in rw (is, w, s.must_is) (every_false ix v s.musts s.mays y s.may_holds each)

pub side_of_not : (ix : List Kinds) (wanted : Bool) (f : BoundFilter) (b : Box BoundFilter Global) (m y : Plan) →
    f ≡ bound.Not b → IsSide ix (not wanted) b.value m y → IsSide ix wanted f m y
side_of_not ix wanted f b m y is s =
    rw is (record {
      bounds = λ n e. simp (value-Not, decided-Not) (negated _ _ _ _ wanted (s.bounds n e));
      runs = λ w e h. runs-Not ix e b;
    })

-- what may be true of an `and` is true of each decided part
pub parts_of_every : (ix : List Kinds) (fs : List BoundFilter) (m y : Plan) → IsEvery ix true fs m y →
    (n : List RdnModel) (e : List KeyedAttribute) → holds ix e y ≡ true → DecidedAreTrue ix n e fs
parts_of_every ix fs m y s n e h = decided_parts s.each n e (sym (all_hold ix s.mays y s.may_holds e) ∙ h)

-- the plans of each filter of a row, and more that all of these imply
pub every_of : (ix : List Kinds) (wanted : Bool) (fs : List BoundFilter) (ms : Vec Plan Global) (ys : List Plan)
    (zs : Vec Plan Global) → EachSide ix wanted fs ms.items ys
    → ((e : List KeyedAttribute) → list_all (holds ix e) zs.items ≡ list_all (holds ix e) ys) →
    IsEvery ix wanted fs (plan.Inter ms) (plan.Inter zs)
every_of ix wanted fs ms ys zs each same = record {
  musts = ms;
  mays = ys;
  each = each;
  must_is = refl;
  may_holds = λ e. in_plan-Inter _ _ _ zs ∙ list_all-map (λ b. b) (holds ix e) zs.items ∙ same e;
}

-- bounds of each entry bound the sets
pub bounds_sets : (ix : List Kinds) (value : List KeyedAttribute → Truth) (wanted : Truth) (decided : Bool)
    (m y : Plan) → SetsAreOfEntries → Bounds ix value wanted decided m y → BoundsSets ix value wanted decided m y
bounds_sets ix value wanted decided m y agree bounds es scope n e num has inside =
    let em = agree ix es scope n e m num has inside in
    let ey = agree ix es scope n e y num has inside in
    rw (em, ey) (bounds e)

out_and : (v : Vec BoundFilter Global) → out-BoundFilter (bound.And v) ≡ BoundFilter-F.And v
out_and v = ap out-BoundFilter (sym (rolls-And v)) ∙ out-roll-BoundFilter (BoundFilter-F.And v)

abbrev row_of : BoundFilter-F BoundFilter → Vec BoundFilter Global → Vec BoundFilter Global
row_of (BoundFilter-F.And v) d = v
row_of (BoundFilter-F.Or v) d = d
row_of (BoundFilter-F.Not b) d = d
row_of BoundFilter-F.Undefined d = d
row_of (BoundFilter-F.Leaf leaf) d = d
row_of (BoundFilter-F.Match m) d = d

-- an `and` has one row of parts
pub and_parts_same : (v w : Vec BoundFilter Global) → bound.And v ≡ bound.And w → v ≡ w
and_parts_same v w h = ap (λ (f : BoundFilter-F BoundFilter). row_of f v) (sym (out_and v) ∙ ap out-BoundFilter h
    ∙ out_and w)

-- bounds of each entry guide a run
pub bounds_guide : (ix : List Kinds) (value : List KeyedAttribute → Truth) (decided : Bool) (m y : Plan) →
    SetsAreOfEntries → Bounds ix value True decided m y → GuidesRuns ix value m y
bounds_guide ix value decided m y agree bounds es scope at num valued = record {
  sound = λ n s h. let v = valued n s in v.1.1 ∙ (bounds_sets ix value True decided m y agree bounds es scope n v.0
      num v.1.0 s).sound h;
  complete = λ n s h. let v = valued n s in (bounds_sets ix value True decided m y agree bounds es scope n v.0 num
      v.1.0 s).complete (sym v.1.1 ∙ h);
}
