-- The classes that SUP leads to from one, in the order in which they are reached (RFC 4512 2.4). Descriptions come in,
-- classes go out; no contract of another crate names it.
use Rattle.std.specs.Prelude.{◌≡◌, ◌++◌, ◌<◌, ◌≤◌, ℕ, List, [], ◌∷◌, Bool, true, false, cond, length, slice_index_or, slice_set, Option, None, Some}
use Rattle.schema_meaning.specs.Naming.{find, superior_texts}
use Rattle.schema_meaning.specs.schema_text.Descriptions.{DescriptionModel}
use Rattle.schema_faults.specs.declared.loops.Step.{Step}
use Rattle.schema_faults.specs.Loops.{is_right_above}

-- the classes in the order in which they were reached, and for each class whether it was
pub record ReachedModel : Type 0 where
  pub order : List Step
  pub seen : List Bool

-- a class that is reached from the one at this place, where it was not before
abbrev pub with_class : ℕ → ReachedModel → ℕ → ReachedModel
with_class from r u = record {
  order = cond (slice_index_or r.seen u true) r.order (r.order ++ record { class = u; from = from } ∷ []);
  seen = slice_set r.seen u true;
}

-- one more class reached, where a word calls one
abbrev pub with_found : ℕ → ReachedModel → Option ℕ → ReachedModel
with_found from r None = r
with_found from r (Some u) = with_class from r u

-- the classes that words call, reached from the one at this place
abbrev pub with_called : List DescriptionModel → ℕ → ReachedModel → List (List ℕ) → ReachedModel
with_called classes from r [] = r
with_called classes from r (w ∷ ws) = with_called classes from (with_found from r (find classes w)) ws

-- the classes that the SUP of a description names, reached from the one at this place
abbrev pub with_superiors : List DescriptionModel → ℕ → ReachedModel → Option DescriptionModel → ReachedModel
with_superiors classes from r None = r
with_superiors classes from r (Some d) = with_called classes from r (superior_texts d)

-- what a place without a class gives
abbrev pub nowhere : Step
nowhere = record { class = 0; from = 0 }

-- the class at a place of the order; class 0, where there is no such place
abbrev pub class_at : List Step → ℕ → ℕ
class_at order place = (slice_index_or order place nowhere).class

-- each class but the first was reached from one before it, whose SUP names it
pub record IsOrder (classes : List DescriptionModel) (start : ℕ) (order : List Step) : Type 0 where
  pub some : 0 < length order
  pub first : class_at order 0 ≡ start
  pub before : (i : ℕ) → 0 < i → i < length order → (slice_index_or order i nowhere).from < i
  pub above : (i : ℕ) → 0 < i → i < length order →
      is_right_above classes (class_at order (slice_index_or order i nowhere).from) (class_at order i) ≡ true

-- a class is among those that were reached
abbrev pub IsAmongReached : List Step → ℕ → Type 0
IsAmongReached order u = (i : ℕ) × (i < length order) × (class_at order i ≡ u)

-- classes that were reached from one on: the SUP of each before this place names no class but these, and not the first
pub record IsReached (classes : List DescriptionModel) (start : ℕ) (place : ℕ) (r : ReachedModel) : Type 0 where
  pub order : IsOrder classes start r.order
  pub count : length r.seen ≡ length classes
  pub seen : (u : ℕ) → slice_index_or r.seen u false ≡ true → IsAmongReached r.order u
  pub closed : (i u : ℕ) → i < place → i < length r.order → is_right_above classes (class_at r.order i) u ≡ true →
      (u ≡ start → ⊥) × IsAmongReached r.order u
  pub within : place ≤ length r.order
