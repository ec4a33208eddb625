-- What opening a journal finds, and why it is refused as one of another version.
use Rattle.std.specs.Prelude.{◌≡◌, ◌≢◌, ℕ, List, [], ◌∷◌, ◌++◌, Option, Some, None}
use Rattle.log_journal.specs.Fields.{Fields, fields_at}
use Rattle.log_journal.specs.Told.{Tells, nothing_told}
use Rattle.log_journal.specs.Views.{told_view}
use Rattle.log_journal.specs.declared.told.Told as held

-- What strings tell is found; nothing, where there are none.
abbrev pub IsFound : Option held.Told → List (List ℕ) → Type 0
IsFound None strings = strings ≡ []
IsFound (Some told) strings = (strings ≢ []) × Tells nothing_told strings (told_view told)

-- A string is a beginning, as a journal of another version has it.
pub record IsOfAnotherVersion (string : List ℕ) : Type 0 where
  pub fields : Fields
  pub read : fields_at string ≡ Some fields
  pub kind : fields.kind ≡ 0
  pub version : fields.first ≢ 1

-- One of these strings is such a beginning.
pub record HasAnotherVersion (strings : List (List ℕ)) : Type 0 where
  pub before : List (List ℕ)
  pub string : List ℕ
  pub behind : List (List ℕ)
  pub is : strings ≡ before ++ string ∷ behind
  pub of : IsOfAnotherVersion string
