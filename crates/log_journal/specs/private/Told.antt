-- What a journal's notes stand for: what contracts that aren't public say of it.
-- What public contracts say is in specs/Told.
use Rattle.std.specs.Prelude.{◌≡◌, ℕ, List}
use Rattle.log_journal.specs.Fields.{Fields}
use Rattle.log_journal.specs.Notes.{Note, IsNoteIn, Spells}
use Rattle.log_journal.specs.Told.{Told, told_by}

-- What is told goes from t to u by the note of these fields.
pub record Takes (f : Fields) (t u : Told) : Type 0 where
  pub note : Note
  pub is : IsNoteIn note f
  pub told : told_by t note ≡ u

-- What is told goes from t to u by the note of this string.
pub record TakesString (string : List ℕ) (t u : Told) : Type 0 where
  pub note : Note
  pub spells : Spells note string
  pub told : told_by t note ≡ u
