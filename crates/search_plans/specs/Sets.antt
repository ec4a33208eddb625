-- The sets that plans mean.
use Rattle.std.specs.Prelude.{◌≡◌, ℕ, ◌<◌, Bool, true, false, ◌&&◌, not, List, [], ◌∷◌}
use Rattle.std.specs.List.{list_any, list_all, AllByRecursion}
use Rattle.dir_index.specs.ldap_match.declared.truth.Truth.{Truth}
use Rattle.dir_index.specs.ldap_match.declared.truth.Truth.TheVariants.{True}
use Rattle.dir_index.specs.dir_entry.Entry.{KeyedAttribute}
use Rattle.dir_index.specs.index_choice.declared.kinds.Kinds.{Kinds}
use Rattle.dir_index.specs.index_choice.Choice.{kinds_of}
use Rattle.dir_index.specs.Postings.{Indexed, Lists, is_kept, is_listed, has_in_range, has_number, postings_of}
use Rattle.dir_index.specs.declared.posting.Posting.{Posting}
use Rattle.dir_index.specs.declared.posting.Range.{Range}
use Rattle.search_plans.specs.declared.plan.Plan.{Plan, fold-Plan}
use Rattle.search_plans.specs.declared.plan.Plan.TheOpen.{Plan-F}
pub use Rattle.dir_index.specs.Whole.{HasEntry}

-- One level of a plan: whether a number is in it, from whether it is in scope, in a posting list and in a range.
abbrev pub in_step : Bool → (Posting → Bool) → (Range → Bool) → Plan-F Bool → Bool
in_step s p r Plan-F.Empty = false
in_step s p r Plan-F.Scope = s
in_step s p r (Plan-F.Posting x) = p x
in_step s p r (Plan-F.Range x) = r x
in_step s p r (Plan-F.Union v) = list_any (λ b. b) v.items
in_step s p r (Plan-F.Inter v) = list_all (λ b. b) v.items
in_step s p r (Plan-F.Minus a b) = a.value && not b.value

-- whether a number is in a plan
abbrev pub in_plan : Bool → (Posting → Bool) → (Range → Bool) → Plan → Bool
in_plan s p r = fold-Plan Bool (in_step s p r)

-- what a plan says of an entry in scope
abbrev pub holds : List Kinds → List KeyedAttribute → Plan → Bool
holds ix e =
    in_plan true (λ p. is_kept ix p && is_listed p e) (λ r. (kinds_of ix r.type_id).ordering && has_in_range r e)

-- whether a number is in the set of a plan, over posting lists and a scope
abbrev pub is_in : Lists → List ℕ → Plan → ℕ → Bool
is_in kept scope p n =
    in_plan (has_number n scope) (λ x. has_number n (kept.posting x)) (λ r. has_number n (kept.range r)) p

-- each entry's number is above those before it
abbrev pub AreNumbered : List Indexed → Type 0
AreNumbered [] = Unit {0}
AreNumbered (x ∷ xs) = AllByRecursion (λ y. x.number < y.number) xs × AreNumbered xs

-- Of each entry whose number is in scope a plan's set over the posting lists says what the plan says of the entry.
abbrev pub SetsAreOfEntries : Type 0
SetsAreOfEntries = (ix : List Kinds) (es : List Indexed) (scope : List ℕ) (n : ℕ) (e : List KeyedAttribute) (p : Plan)
    → AreNumbered es → HasEntry es n e → has_number n scope ≡ true → is_in (postings_of ix es) scope p n ≡ holds ix e p

-- Within a scope, what must is True, and what is True may.
pub record Guides (must : ℕ → Bool) (value : ℕ → Truth) (may : ℕ → Bool) (scope : List ℕ) : Type 0 where
  pub sound : (n : ℕ) → has_number n scope ≡ true → must n ≡ true → value n ≡ True
  pub complete : (n : ℕ) → has_number n scope ≡ true → value n ≡ True → may n ≡ true

-- Each number of a scope is an entry's, and has the value that is told of that entry.
abbrev pub IsValued : List Indexed → (List KeyedAttribute → Truth) → List ℕ → (ℕ → Truth) → Type 0
IsValued es told scope value =
    (n : ℕ) → has_number n scope ≡ true → (e : List KeyedAttribute) × (HasEntry es n e × (value n ≡ told e))
