-- What is in effect for the types whose chain of SUPs ends, a step of the chain at a time.
use Rattle.std.specs.Prelude.{ℕ, ◌<◌, zero, suc, List, ◌≡◌, length, reverse, slice_get, Option, None, Some}
use Rattle.schema_text.specs.Descriptions.{DescriptionModel}
use Rattle.schema_meaning.specs.declared.inheriting.Way.{Way}
use Rattle.schema_meaning.specs.declared.inheriting.Way.TheVariants.{Ends, IsLost, GoesTo}
use Rattle.schema_meaning.specs.declared.inheriting.Effect.{Effect}
use Rattle.schema_meaning.specs.Inheriting.{way_from, lineage, inherited, nothing, own_at, effect_down}

-- what is in effect down a chain of SUPs; none, where there is no chain
abbrev pub settled_by : List DescriptionModel → Option (List ℕ) → Option Effect
settled_by types None = None
settled_by types (Some chain) = Some (effect_down types nothing (reverse chain))

-- what is in effect for a type whose chain of SUPs ends; none, where it does not
abbrev pub settled : List DescriptionModel → ℕ → Option Effect
settled types t = settled_by types (lineage types t)

-- what is in effect for a type, by what is in effect for its superior
abbrev pub settled_under : List DescriptionModel → ℕ → Option Effect → Option Effect
settled_under types t None = None
settled_under types t (Some above) = Some (inherited above (own_at types t))

-- what is in effect for a type: under nothing where its SUPs end, under its superior where they go on; none, where they
-- are lost
abbrev pub gone_on : List DescriptionModel → ℕ → Way → (ℕ → Option Effect) → Option Effect
gone_on types t Ends f = settled_under types t (Some nothing)
gone_on types t IsLost f = None
gone_on types t (GoesTo u) f = settled_under types t (f u)

-- what is in effect for a type whose chain of SUPs ends within so many steps
abbrev pub settled_within : List DescriptionModel → ℕ → ℕ → Option Effect
settled_within types zero t = None
settled_within types (suc k) t = gone_on types t (way_from types t) (λ u. settled_within types k u)

-- what a table has at a place; none, where it has no such place
abbrev pub effect_in : Option (Option Effect) → Option Effect
effect_in None = None
effect_in (Some o) = o

-- what a table has for a type
abbrev pub effect_at : List (Option Effect) → ℕ → Option Effect
effect_at table t = effect_in (slice_get table t)

-- what is in effect for a type, by what a table has for its superior
abbrev pub effect_by : List DescriptionModel → List (Option Effect) → ℕ → Option Effect
effect_by types table t = gone_on types t (way_from types t) (effect_at table)

-- the second one, where there isn't the first
abbrev pub new_if : Option Effect → Option Effect → Option Effect
new_if (Some e) o = None
new_if None o = o

-- what a table has nothing for though it tells it
abbrev pub new_effect : List DescriptionModel → List (Option Effect) → ℕ → Option Effect
new_effect types table t = new_if (effect_at table t) (effect_by types table t)

-- a table has a place for each type, and what it has is so
pub record Knows (types : List DescriptionModel) (table : List (Option Effect)) : Type 0 where
  pub count : length table ≡ length types
  pub right : (t : ℕ) (e : Effect) → effect_at table t ≡ Some e → settled types t ≡ Some e

-- a type that a table tells something new of; none, where there is no such type
abbrev pub IsNews : List DescriptionModel → List (Option Effect) → Option (ℕ × Effect) → Type 0
IsNews types table None = (t : ℕ) → t < length table → new_effect types table t ≡ None
IsNews types table (Some n) = (n.0 < length table) × (new_effect types table n.0 ≡ Some n.1)

-- a table has all that is in effect where chains of SUPs end
pub record HasAll (types : List DescriptionModel) (table : List (Option Effect)) : Type 0 where
  pub all : (t : ℕ) → settled types t ≡ effect_at table t
