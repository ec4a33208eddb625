-- What a run of plans is given, and how far it has come: what contracts that aren't public say of it.
-- What public contracts say is in specs/Runs.
use Rattle.std.specs.Prelude.{◌≡◌, ℕ, ◌+◌, ◌^◌, ◌<◌, ◌≤◌, Bool, true, ◌&&◌, List, ◌++◌, filter, length, take}
use Rattle.std.specs.Prelude.{drop}
use Rattle.dir_index.specs.ldap_match.declared.truth.Truth.{Truth}
use Rattle.dir_index.specs.ldap_match.declared.truth.Truth.TheVariants.{True}
use Rattle.dir_index.specs.Postings.{Lists, has_number, IsRising}
use Rattle.search_plans.specs.Sets.{Guides}
use Rattle.search_plans.specs.declared.resolved.ResolvedSides.{ResolvedSides}
use Rattle.search_plans.specs.Runs.{is_open}
use Rattle.search_plans.specs.private.Resolved.{is_in_resolved}

-- whether a number is in a scope and left open
abbrev pub is_asked : (ℕ → Bool) → (ℕ → Bool) → List ℕ → ℕ → Bool
is_asked must may scope n = has_number n scope && is_open must may n

-- the same by resolved plans
abbrev pub is_left_open : Lists → ResolvedSides → List ℕ → ℕ → Bool
is_left_open kept s scope n = is_asked (is_in_resolved kept s.must) (is_in_resolved kept s.may) scope n

-- Of one number: where it must be found its value is True, and where that is True it may be found.
pub record IsGuided (must : Bool) (value : Truth) (may : Bool) : Type 0 where
  pub sound : must ≡ true → value ≡ True
  pub complete : value ≡ True → may ≡ true

-- where it is known of candidates, they all are in scope
abbrev pub AreInside : Bool → List ℕ → List ℕ → Type 0
AreInside is_known candidates scope = is_known ≡ true → (n : ℕ) → has_number n candidates ≡ true →
    has_number n scope ≡ true

-- where it is known of candidates, they all must be found
abbrev pub AreSure : Bool → (ℕ → Bool) → List ℕ → Type 0
AreSure is_known must candidates = is_known ≡ true → (n : ℕ) → has_number n candidates ≡ true → must n ≡ true

-- two sets have the same of the candidates that are in scope
abbrev pub AreSameWithin : (ℕ → Bool) → (ℕ → Bool) → List ℕ → List ℕ → Type 0
AreSameWithin one other scope candidates = (n : ℕ) → has_number n candidates ≡ true → has_number n scope ≡ true →
    one n ≡ other n

-- A run under way: the numbers that were asked for are the first of those left open, the others are among the
-- candidates that are left, all above what was passed, and there is room to count them.
pub record IsUnderWay (must may : ℕ → Bool) (value : ℕ → Truth) (scope candidates : List ℕ) (tests looks : ℕ)
    : Type 0 where
  pub scope_rises : IsRising scope
  pub guides : Guides must value may scope
  pub left : drop tests (filter (is_open must may) scope) ≡ filter (is_asked must may scope) candidates
  pub rises : IsRising (take tests (filter (is_open must may) scope) ++ candidates)
  pub within : tests ≤ length (filter (is_open must may) scope)
  pub fits : length (filter (is_open must may) scope) < 2 ^ 64
  pub room : looks + length (filter (is_open must may) scope) < 2 ^ 64 + tests
