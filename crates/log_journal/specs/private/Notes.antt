-- The notes of a replica's journal, and which strings spell them: what contracts that aren't public say of it.
-- What public contracts say is in specs/Notes.
use Rattle.std.specs.Prelude.{◌≡◌, ℕ, List, [], ◌∷◌, ◌++◌, Some}
use Rattle.log_journal.specs.Fields.{Fields, fields_at}

-- The new strings are the old ones and then one with these fields.
pub record PutsFields (f : Fields) (old new : List (List ℕ)) : Type 0 where
  pub string : List ℕ
  pub is : new ≡ old ++ string ∷ []
  pub read : fields_at string ≡ Some f
