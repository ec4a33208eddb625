-- What it is to bound a filter from both sides.
use Rattle.std.specs.Prelude.{◌≡◌, ℕ, Bool, true, false, ◌||◌, List}
use Rattle.std.specs.List.{list_all, AllByRecursion}
use Rattle.ldap_eval.specs.ldap_match.declared.truth.Truth.{Truth}
use Rattle.ldap_eval.specs.ldap_match.declared.truth.Truth.TheVariants.{True}
use Rattle.ldap_eval.specs.ldap_match.declared.testing.Test.{Test}
use Rattle.ldap_eval.specs.ldap_match.declared.testing.Test.TheVariants as test
use Rattle.ldap_eval.specs.dir_entry.Entry.{KeyedAttribute}
use Rattle.ldap_eval.specs.dir_entry.ldap_dn.Names.{RdnModel}
use Rattle.dir_index.specs.index_choice.declared.kinds.Kinds.{Kinds}
use Rattle.dir_index.specs.index_choice.Choice.{kinds_of}
use Rattle.dir_index.specs.Postings.{Indexed, has_number, postings_of}
use Rattle.search_plans.specs.Sets.{holds, is_in, AreNumbered, HasEntry, Guides, IsValued}
use Rattle.search_plans.specs.declared.plan.Plan.{Plan}
use Rattle.ldap_eval.specs.Bound.{bound_value}
use Rattle.ldap_eval.specs.declared.bound.BoundFilter.{BoundFilter, fold-BoundFilter}
use Rattle.ldap_eval.specs.declared.bound.BoundFilter.TheOpen.{BoundFilter-F}

-- whether the indexes of a type decide a test on its attributes
abbrev pub is_test_decided : List Kinds → ℕ → Test → Bool
is_test_decided ix t test.Present = (kinds_of ix t).presence
is_test_decided ix t test.Unknown = (kinds_of ix t).presence
is_test_decided ix t (test.Equal k) = (kinds_of ix t).equality || (kinds_of ix t).ordering
is_test_decided ix t (test.AtLeast k) = (kinds_of ix t).ordering
is_test_decided ix t (test.AtMost k) = (kinds_of ix t).ordering
is_test_decided ix t (test.Parts p) = false

-- one level, with each part already told
abbrev pub decided_step : List Kinds → BoundFilter-F Bool → Bool
decided_step ix (BoundFilter-F.And v) = list_all (λ b. b) v.items
decided_step ix (BoundFilter-F.Or v) = list_all (λ b. b) v.items
decided_step ix (BoundFilter-F.Not b) = b.value
decided_step ix BoundFilter-F.Undefined = true
decided_step ix (BoundFilter-F.Leaf leaf) = is_test_decided ix leaf.type_id leaf.test
decided_step ix (BoundFilter-F.Match m) = false

-- whether the indexes decide all of a filter's leaves; a match they never decide
abbrev pub is_decided : List Kinds → BoundFilter → Bool
is_decided ix = fold-BoundFilter Bool (decided_step ix)

-- Of one entry: what must is has the wanted value, what has it may be; where it is decided, the two are the same.
pub record IsBetween (must : Bool) (value wanted : Truth) (may decided : Bool) : Type 0 where
  pub sound : must ≡ true → value ≡ wanted
  pub complete : value ≡ wanted → may ≡ true
  pub exact : decided ≡ true → may ≡ true → must ≡ true

-- Of each entry: two plans bound from both sides where a value is the wanted one.
abbrev pub Bounds : List Kinds → (List KeyedAttribute → Truth) → Truth → Bool → Plan → Plan → Type 0
Bounds ix value wanted decided must may = (e : List KeyedAttribute)
    → IsBetween (holds ix e must) (value e) wanted (holds ix e may) decided

-- Over the posting lists of any entries, and any scope: of each entry in scope, the number is in the plans' sets as
-- `Bounds` says of the entry.
abbrev pub BoundsSets : List Kinds → (List KeyedAttribute → Truth) → Truth → Bool → Plan → Plan → Type 0
BoundsSets ix value wanted decided must may = (es : List Indexed) (scope : List ℕ) (n : ℕ) (e : List KeyedAttribute)
    → AreNumbered es → HasEntry es n e → has_number n scope ≡ true
    → IsBetween (is_in (postings_of ix es) scope must n) (value e) wanted
    (is_in (postings_of ix es) scope may n) decided

-- Two plans guide a run over the posting lists of any entries, within any scope of their numbers.
abbrev pub GuidesRuns : List Kinds → (List KeyedAttribute → Truth) → Plan → Plan → Type 0
GuidesRuns ix told must may = (es : List Indexed) (scope : List ℕ) (value : ℕ → Truth)
    → AreNumbered es → IsValued es told scope value
    → Guides (is_in (postings_of ix es) scope must) value (is_in (postings_of ix es) scope may) scope

-- each filter that the indexes decide is True on an entry
abbrev pub DecidedAreTrue : List Kinds → List RdnModel → List KeyedAttribute → List BoundFilter → Type 0
DecidedAreTrue ix n e fs = AllByRecursion (λ f. is_decided ix f ≡ true → bound_value n e f ≡ True) fs
