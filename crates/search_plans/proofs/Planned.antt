-- Two plans that bound a bound filter are the plans of the filter that it is made of.
use Rattle.std.proofs.Common.{◌≡◌, ℕ, Bool, true, false, List, [], ◌∷◌, Vec, Global, refl, sym, ap, ◌∙◌}
use Rattle.ldap_eval.specs.dir_entry.ldap_schema.Schema.{SchemaModel}
use Rattle.ldap_eval.specs.dir_entry.ldap_dn.Names.{RdnModel}
use Rattle.ldap_eval.specs.ldap_filter.Tree.{Tree, conj, disj, negation, item, Trees, no_trees, tree}
use Rattle.ldap_eval.specs.ldap_match.declared.truth.Truth.{Truth}
use Rattle.ldap_eval.specs.ldap_match.declared.truth.Truth.TheVariants.{True, False, Undefined}
use Rattle.ldap_eval.specs.dir_entry.Entry.{KeyedAttribute, attributes_of, IsKeyedBy}
use Rattle.ldap_eval.specs.Value.{filter_value}
use Rattle.ldap_eval.specs.Bound.{bound_value, IsBoundTo}
use Rattle.ldap_eval.specs.Made.{IsMadeOf, AreMadeOf}
use Rattle.ldap_eval.specs.declared.bound.BoundFilter.{BoundFilter}
use Rattle.ldap_eval.specs.declared.bound.BoundFilter.TheVariants as bound
use Rattle.dir_index.specs.index_choice.declared.kinds.Kinds.{Kinds}
use Rattle.dir_index.specs.Postings.{Indexed, has_number, postings_of}
use Rattle.search_plans.specs.Sets.{is_in, holds, AreNumbered, HasEntry, SetsAreOfEntries}
use Rattle.search_plans.specs.declared.plan.Plan.{Plan}
use Rattle.search_plans.specs.Decided.{is_decided}
use Rattle.search_plans.specs.Held.{has_runs}
use Rattle.search_plans.specs.Bounds.{DecidedAreTrue}
use Rattle.search_plans.specs.Planned.{is_true, is_match, DecidedMatch, DecidedPartsMatch, ArePlansFor}
use Rattle.search_plans.specs.private.Sides.{IsSide}
use Rattle.search_plans.proofs.HeldRuns.{TestsAreItems}
use Rattle.search_plans.proofs.Decided.{decided_same, runs_same}

of_true : (v : Truth) → is_true v ≡ true → v ≡ True
of_true True h = refl
of_true False h = absurd (cc h)
of_true Undefined h = absurd (cc h)

both_ways : (a b : Bool) → (a ≡ true → b ≡ true) → (b ≡ true → a ≡ true) → a ≡ b
both_ways true true f g = refl
both_ways true false f g = sym (f refl)
both_ways false true f g = g refl
both_ways false false f g = refl

-- Of one entry: what must is matches, what matches may, and what is decided is as it may be.
record IsPlanned (must matches may decided has : Bool) : Type 0 where
  sound : must ≡ true → matches ≡ true
  complete : matches ≡ true → may ≡ true
  exact : decided ≡ true → may ≡ true → must ≡ true
  runs : may ≡ true → has ≡ true

-- What bound filters say of the decided ones among them, the filters say that they are made of.
decided_match : (law : TestsAreItems) (s : SchemaModel) (ix : List Kinds) (ts : Trees) (bs : List BoundFilter) →
    AreMadeOf s ts bs → (name : List RdnModel) (e : List KeyedAttribute) → IsKeyedBy s e
    → DecidedAreTrue ix name e bs → DecidedMatch s ix ts name e
decided_match law s ix no_trees [] made name e keyed h = tt
decided_match law s ix no_trees (b ∷ bs) made name e keyed h = absurd made
decided_match law s ix (tree t ts) [] made name e keyed h = absurd made
decided_match law s ix (tree t ts) (b ∷ bs) made name e keyed h = (
  λ d. ap is_true (sym (made.0 name e keyed) ∙ h.0 (decided_same law s ix t b made.1 ∙ d)),
  decided_match law s ix ts bs made.2 name e keyed h.1,
)

-- what may be true of an `and` is true of each of its parts that are decided
abbrev pub PartsHold : List Kinds → BoundFilter → Plan → Type 0
PartsHold ix b may = (v : Vec BoundFilter Global) → b ≡ bound.And v → (n : List RdnModel) (e : List KeyedAttribute) →
    holds ix e may ≡ true → DecidedAreTrue ix n e v.items

parts_match : (law : TestsAreItems) (s : SchemaModel) (ix : List Kinds) (t : Tree) (b : BoundFilter) (may : Plan) →
    IsMadeOf s t b → PartsHold ix b may → (name : List RdnModel) (e : List KeyedAttribute) → IsKeyedBy s e
    → holds ix e may ≡ true → DecidedPartsMatch s ix t name e
parts_match law s ix (conj ts) b may made parts name e keyed h = decided_match law s ix ts made.parts.items made.hold
    name e keyed (parts made.parts made.is name e h)
parts_match law s ix (disj ts) b may made parts name e keyed h = tt
parts_match law s ix (negation t) b may made parts name e keyed h = tt
parts_match law s ix (item i) b may made parts name e keyed h = tt

module _ (agree : SetsAreOfEntries) (law : TestsAreItems) (s : SchemaModel) (ix : List Kinds) (t : Tree)
    (b : BoundFilter) (must may : Plan) where
  of_entry : IsSide ix true b must may → IsBoundTo s t b → IsMadeOf s t b →
      (name : List RdnModel) (e : List KeyedAttribute) → IsKeyedBy s e
      → IsPlanned (holds ix e must) (is_match s t name e) (holds ix e may) (is_decided s ix t)
      (has_runs s ix (attributes_of e) t)
  of_entry side stands made name e keyed =
      let bounds = side.bounds name e in
      let same : bound_value name e b ≡ filter_value s t name (attributes_of e) = stands name e keyed in
      record {
        sound = λ h. ap is_true (sym same ∙ bounds.sound h);
        complete = λ h. bounds.complete (same ∙ of_true (filter_value s t name (attributes_of e)) h);
        exact = λ d h. bounds.exact (decided_same law s ix t b made ∙ d) h;
        runs = λ h. sym (runs_same law s ix e keyed t b made) ∙ side.runs refl e h;
      }

  in_set : (es : List Indexed) (scope : List ℕ) (n : ℕ) (e : List KeyedAttribute) (p : Plan) → AreNumbered es →
      HasEntry es n e → has_number n scope ≡ true → holds ix e p ≡ is_in (postings_of ix es) scope p n
  in_set es scope n e p num has at = sym (agree ix es scope n e p num has at)

  pub planned : IsSide ix true b must may → PartsHold ix b may → IsBoundTo s t b → IsMadeOf s t b →
      ArePlansFor s ix t must may
  planned side held stands made = record {
    sound = λ es scope n name e num has keyed at h. (of_entry side stands made name e keyed).sound
        (in_set es scope n e must num has at ∙ h);
    complete = λ es scope n name e num has keyed at h. sym (in_set es scope n e may num has at)
        ∙ (of_entry side stands made name e keyed).complete h;
    decided = λ d. (
      λ es scope n name e num has keyed at.
          let x = of_entry side stands made name e keyed in
          sym (in_set es scope n e must num has at) ∙ both_ways _ _ x.sound (λ h. x.exact d (x.complete h)),
      λ es scope n name e num has keyed at.
          let x = of_entry side stands made name e keyed in
          sym (in_set es scope n e may num has at) ∙ both_ways _ _ (λ h. x.sound (x.exact d h)) x.complete,
    );
    parts = λ es scope n name e num has keyed at h. parts_match law s ix t b may made held name e keyed
        (in_set es scope n e may num has at ∙ h);
    runs = λ es scope n name e num has keyed at h. (of_entry side stands made name e keyed).runs
        (in_set es scope n e may num has at ∙ h);
  }
