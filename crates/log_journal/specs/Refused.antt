-- Why a note isn't taken, put or settled: it is of another version, or its fields are of no note, or there is no room
-- for it.
use Rattle.std.specs.Prelude.{◌≡◌, ◌<◌, ◌≤◌, ◌+◌, ◌^◌, ℕ, List, [], ◌∷◌, ◌++◌, length}
use Rattle.vr_state.specs.Journaled as journaled
use Rattle.log_journal.specs.Framed.{AreTooLong}
use Rattle.log_journal.specs.Notes.{Note, Step, Spells}
use Rattle.log_journal.specs.declared.error.NoteError.{NoteError}
use Rattle.log_journal.specs.declared.error.NoteError.TheVariants.{NoMemory, Damaged, AnotherVersion, Unwritable, Full, DeviceFailed}

-- Taking a note is refused for these alone.
abbrev pub IsOfTaking : NoteError → Type 0
IsOfTaking NoMemory = Unit {0}
IsOfTaking Damaged = Unit {0}
IsOfTaking AnotherVersion = Unit {0}
IsOfTaking e = ⊥

-- Opening a journal is refused for these, or since the device failed.
abbrev pub IsOfOpening : NoteError → Type 0
IsOfOpening DeviceFailed = Unit {0}
IsOfOpening e = IsOfTaking e

-- Clearing what stands behind a journal's strings is refused for these alone.
abbrev pub IsOfClearing : NoteError → Type 0
IsOfClearing NoMemory = Unit {0}
IsOfClearing DeviceFailed = Unit {0}
IsOfClearing e = ⊥

-- The home of a note's client fits its octet.
abbrev pub HasHome : Note → Type 0
HasHome (Step (journaled.Record k e)) = e.client.home < 2 ^ 8
HasHome (Step (journaled.Stage e)) = e.client.home < 2 ^ 8
HasHome x = Unit {0}

-- A string spells no note.
abbrev pub IsDamaged : List ℕ → Type 0
IsDamaged string = (x : Note) → HasHome x → Spells x string → ⊥

-- One of these strings spells no note.
pub record HasDamage (strings : List (List ℕ)) : Type 0 where
  pub before : List (List ℕ)
  pub string : List ℕ
  pub behind : List (List ℕ)
  pub is : strings ≡ before ++ string ∷ behind
  pub of : IsDamaged string

-- Putting a note's fields is refused for these alone.
abbrev pub IsOfPutting : NoteError → Type 0
IsOfPutting NoMemory = Unit {0}
IsOfPutting Full = Unit {0}
IsOfPutting e = ⊥

-- Noting a step is refused for these alone.
abbrev pub IsOfNoting : NoteError → Type 0
IsOfNoting NoMemory = Unit {0}
IsOfNoting Full = Unit {0}
IsOfNoting Unwritable = Unit {0}
IsOfNoting e = ⊥

-- Noting one step is refused for these alone: want of memory has left its event out before.
abbrev pub IsOfNotingOne : NoteError → Type 0
IsOfNotingOne Full = Unit {0}
IsOfNotingOne Unwritable = Unit {0}
IsOfNotingOne e = ⊥

-- The frames of a batch with a string that spells a note are too long.
pub record HasNoRoom (x : Note) (batch : List (List ℕ)) : Type 0 where
  pub string : List ℕ
  pub spells : Spells x string
  pub long : AreTooLong (batch ++ string ∷ [])

-- Keeping events is refused for these alone.
abbrev pub IsOfKeeping : NoteError → Type 0
IsOfKeeping DeviceFailed = Unit {0}
IsOfKeeping e = IsOfNoting e

-- Keeping one event is refused for these alone.
abbrev pub IsOfKeepingOne : NoteError → Type 0
IsOfKeepingOne DeviceFailed = Unit {0}
IsOfKeepingOne e = IsOfNotingOne e

-- Settling a batch is refused for these alone.
abbrev pub IsOfSettling : NoteError → Type 0
IsOfSettling Full = Unit {0}
IsOfSettling DeviceFailed = Unit {0}
IsOfSettling e = ⊥

-- So many octets fit behind a journal's end on a device with this image, which is short enough.
pub record HasRoom (image : List ℕ) (end octets : ℕ) : Type 0 where
  pub room : end + octets ≤ length image
  pub short : length image < 2 ^ 63
