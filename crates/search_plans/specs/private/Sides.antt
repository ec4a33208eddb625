-- The two plans of one side of a filter, and of each filter of a row. The recursion over a filter says what it makes
-- by them.
use Rattle.std.specs.Prelude.{◌≡◌, Bool, true, ◌&&◌, ◌||◌, List, [], ◌∷◌, Vec}
use Rattle.std.specs.Global.{Global}
use Rattle.std.specs.List.{list_all}
use Rattle.ldap_eval.specs.ldap_match.Truth.{truth_of}
use Rattle.ldap_eval.specs.dir_entry.Entry.{KeyedAttribute}
use Rattle.ldap_eval.specs.dir_entry.ldap_dn.Names.{RdnModel}
use Rattle.dir_index.specs.index_choice.declared.kinds.Kinds.{Kinds}
use Rattle.dir_index.specs.index_choice.Choice.{kinds_of}
use Rattle.dir_index.specs.Postings.{has_several, has_in_range}
use Rattle.dir_index.specs.declared.posting.Range.{Range}
use Rattle.search_plans.specs.Sets.{holds}
use Rattle.search_plans.specs.declared.plan.Plan.{Plan}
use Rattle.search_plans.specs.declared.plan.Plan.TheVariants as plan
use Rattle.ldap_eval.specs.Bound.{bound_value}
use Rattle.ldap_eval.specs.declared.bound.BoundFilter.{BoundFilter}
use Rattle.search_plans.specs.Bounds.{Bounds, is_decided}
use Rattle.search_plans.specs.OctetRuns.{has_runs_for}

-- Two plans bound where a filter has the wanted value, whatever the entry's name; and where that is True, what may be
-- holds the runs that the filter asks for.
pub record IsSide (ix : List Kinds) (wanted : Bool) (f : BoundFilter) (must may : Plan) : Type 0 where
  pub bounds : (n : List RdnModel) → Bounds ix (λ e. bound_value n e f) (truth_of wanted) (is_decided ix f) must may
  pub runs : wanted ≡ true → (e : List KeyedAttribute) → holds ix e may ≡ true → has_runs_for ix e f ≡ true

-- the same of each filter of a row
pub data EachSide (ix : List Kinds) (wanted : Bool) : List BoundFilter → List Plan → List Plan → Type 0 where
  none : EachSide ix wanted [] [] []
  one_more : {f : BoundFilter} {m y : Plan} {fs : List BoundFilter} {ms ys : List Plan} → IsSide ix wanted f m y
      → EachSide ix wanted fs ms ys → EachSide ix wanted (f ∷ fs) (m ∷ ms) (y ∷ ys)

-- from the lower end of one range to the upper end of another on its type
abbrev pub range_between : Range → Range → Range
range_between lower upper = record { type_id = lower.type_id; from = lower.from; upto = upper.upto }

-- Whether an entry has a value between the two ends, or may have several values of the type, where the type's values
-- have an index in order: each entry with a value in each of the two ranges is such a one.
abbrev pub is_between : List Kinds → Range → Range → List KeyedAttribute → Bool
is_between ix lower upper e = (kinds_of ix lower.type_id).ordering
    && (has_in_range (range_between lower upper) e || has_several lower.type_id e)

-- a plan holds of each entry of which all of some plans hold
abbrev pub IsImplied : List Plan → Plan → Type 0
IsImplied ps p = (ix : List Kinds) (e : List KeyedAttribute) → list_all (holds ix e) ps ≡ true → holds ix e p ≡ true

-- What must is the intersection of the plans of each filter of a row; what may be holds of an entry just where all of
-- them do.
pub record IsEvery (ix : List Kinds) (wanted : Bool) (fs : List BoundFilter) (must may : Plan) : Type 0 where
  pub musts : Vec Plan Global
  pub mays : List Plan
  pub each : EachSide ix wanted fs musts.items mays
  pub must_is : must ≡ plan.Inter musts
  pub may_holds : (e : List KeyedAttribute) → holds ix e may ≡ list_all (holds ix e) mays

-- The plans are the unions of those of each filter of a row.
pub record IsAny (ix : List Kinds) (wanted : Bool) (fs : List BoundFilter) (must may : Plan) : Type 0 where
  pub musts : Vec Plan Global
  pub mays : Vec Plan Global
  pub each : EachSide ix wanted fs musts.items mays.items
  pub must_is : must ≡ plan.Union musts
  pub may_is : may ≡ plan.Union mays
