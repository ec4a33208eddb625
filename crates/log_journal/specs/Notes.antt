-- The notes of a replica's journal, and which strings spell them. What a note does to what is kept is defined in Told;
-- which notes a step makes, in vr_state.
use Rattle.std.specs.Prelude.{◌≡◌, ℕ, Bool, true, false, List, [], ◌∷◌, ◌++◌, Some}
use Rattle.ldap_op.specs.Grammar.{IsOp}
use Rattle.ldap_op.specs.Values.{OpValue}
use Rattle.vr_state.specs.Words.{LogEntry}
use Rattle.vr_state.specs.Journaled as journaled
use Rattle.log_journal.specs.Fields.{Fields, fields_at}

-- One note: whose the journal is; a start of the replica, in a view, with a log that it may go on from or not; what a
-- step notes; how much is known to be committed.
pub data Note : Type 0 where
  Begin : (cluster index count : ℕ) → Note
  Start : (restarts view : ℕ) (is_whole : Bool) → Note
  Step : journaled.Note OpValue → Note
  Commit : (k : ℕ) → Note

-- five numbers, and nothing behind them
abbrev pub plain : (kind first second third fourth fifth : ℕ) → Fields
plain kind first second third fourth fifth =
    record { kind = kind; first = first; second = second; third = third; fourth = fourth; fifth = fifth; rest = [] }

-- yes is 1, and no is 0
abbrev pub flag : Bool → ℕ
flag true = 1
flag false = 0

-- Fields are a record's, with this kind and this first number: its client, the client's number for the request, and the
-- octets of its update.
pub record IsEntryIn (kind first : ℕ) (e : LogEntry OpValue) (f : Fields) : Type 0 where
  pub kind_is : f.kind ≡ kind
  pub first_is : f.first ≡ first
  pub home : f.second ≡ e.client.home
  pub life : f.third ≡ e.client.life
  pub number : f.fourth ≡ e.client.number
  pub request : f.fifth ≡ e.request_number
  pub update : IsOp e.payload f.rest

-- The fields are those of what a step notes.
abbrev pub IsStepIn : journaled.Note OpValue → Fields → Type 0
IsStepIn (journaled.Enter view) f = f ≡ plain 2 view 0 0 0 0
IsStepIn (journaled.Record k e) f = IsEntryIn 3 k e f
IsStepIn (journaled.Stage e) f = IsEntryIn 4 0 e f
IsStepIn (journaled.Adopt view last base k) f = f ≡ plain 5 view last base k 0

-- The fields are those of a note. The first number of a beginning is the version of the journal.
abbrev pub IsNoteIn : Note → Fields → Type 0
IsNoteIn (Begin cluster index count) f = f ≡ plain 0 1 cluster index count 0
IsNoteIn (Start restarts view is_whole) f = f ≡ plain 1 restarts view (flag is_whole) 0 0
IsNoteIn (Step x) f = IsStepIn x f
IsNoteIn (Commit k) f = f ≡ plain 6 k 0 0 0 0

-- A string spells a note: its sum fits, and its fields are the note's.
pub record Spells (x : Note) (string : List ℕ) : Type 0 where
  pub fields : Fields
  pub read : fields_at string ≡ Some fields
  pub note : IsNoteIn x fields

-- Strings spell notes, one by one.
abbrev pub SpellAll : List Note → List (List ℕ) → Type 0
SpellAll [] [] = Unit {0}
SpellAll (x ∷ xs) (s ∷ ss) = Spells x s × SpellAll xs ss
SpellAll _ _ = ⊥

-- The new strings are the old ones and then those of these notes.
pub record Puts (xs : List Note) (old new : List (List ℕ)) : Type 0 where
  pub strings : List (List ℕ)
  pub is : new ≡ old ++ strings
  pub spelled : SpellAll xs strings
