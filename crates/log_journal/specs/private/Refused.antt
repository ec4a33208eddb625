-- Why a note isn't taken, put or settled: what contracts that aren't public say of it.
-- What public contracts say is in specs/Refused.
use Rattle.std.specs.Prelude.{◌≡◌, ◌<◌, ◌^◌, ℕ, List, [], ◌∷◌, ◌++◌, Some}
use Rattle.ldap_op.specs.Values.{OpValue}
use Rattle.vr_state.specs.Words.{LogEntry}
use Rattle.log_journal.specs.Fields.{Fields, fields_at}
use Rattle.log_journal.specs.Framed.{AreTooLong}
use Rattle.log_journal.specs.Notes.{Note, IsEntryIn, IsNoteIn}
use Rattle.log_journal.specs.Refused.{HasHome}

-- Fields are of no record.
abbrev pub AreNoEntry : Fields → Type 0
AreNoEntry f = (kind first : ℕ) (e : LogEntry OpValue) → e.client.home < 2 ^ 8 → IsEntryIn kind first e f → ⊥

-- Fields are of no note.
abbrev pub AreNoNote : Fields → Type 0
AreNoNote f = (x : Note) → HasHome x → IsNoteIn x f → ⊥

-- The frames of a batch with a string of these fields are too long.
pub record HasNoRoomFor (f : Fields) (batch : List (List ℕ)) : Type 0 where
  pub string : List ℕ
  pub read : fields_at string ≡ Some f
  pub long : AreTooLong (batch ++ string ∷ [])
