-- What is said of single slots and of a writer: by contracts of functions that aren't public.
use Rattle.std.specs.Prelude.{◌≡◌, ◌≤◌, ℤ, ℕ, List, take, length, Option, Some, None}
use Rattle.std.specs.Io.KnownBytes.{Appends}
use Rattle.ldap_session.specs.View.{ConversationValue}
use Rattle.ldap_session.specs.Conversing.{sends}
use Rattle.session_turns.specs.Owing.{class_of}
use Rattle.session_turns.specs.declared.owing.Class.{Class}
use Rattle.session_table.specs.Attending.{IsSame}
use Rattle.session_table.specs.Waiting.{HasRoused, HasNoted}
use Rattle.session_table.specs.declared.place_state.Roused.{Roused}
use Rattle.session_table.specs.declared.place_state.Turn.{Turn}
use Rattle.session_table.specs.declared.pooled.Notice.{Notice}
use Rattle.session_table.specs.declared.pooled.PooledSession.{PooledSession}

-- a front of what was unsent, so many octets, was given to a writer, and nothing else has changed
pub record SendsTo (output grown : Option (List ℕ)) (v w : ConversationValue) (count : ℕ) : Type 0 where
  pub within : count ≤ length v.unsent
  pub appended : Appends output grown (take count v.unsent)
  pub sent : w ≡ sends v count

-- the session at a place is roused, if one is there; it waits for its turn in the class of what it owes now
pub record RousesOne (g : PooledSession) (now : ℕ) (after : Option PooledSession) (told : Option Roused) : Type 0 where
  pub pooled : PooledSession
  pub fd : ℤ
  pub turn : Turn
  pub class : Class
  pub after_is : after ≡ Some pooled
  pub told_is : told ≡ Some (record { fd = fd; turn = turn; class = class })
  pub class_is : class ≡ class_of pooled.debt now
  pub roused : HasRoused g pooled turn

-- nothing where no session waits there, else what rousing that one does
abbrev pub RousesAt : Option PooledSession → ℕ → Option PooledSession → Option Roused → Type 0
RousesAt None now after told = (after ≡ None) × (told ≡ None)
RousesAt (Some g) now after told = RousesOne g now after told

-- the session at a place is told this, if one is there; so many octets are posted of it no more
pub record NotesOne (g : PooledSession) (notice : Notice) (after : Option PooledSession) (told : Option ℕ) :
    Type 0 where
  pub pooled : PooledSession
  pub less : ℕ
  pub after_is : after ≡ Some pooled
  pub told_is : told ≡ Some less
  pub same : IsSame g pooled
  pub noted : HasNoted g notice pooled

-- nothing where no session is there, else what telling that one does
abbrev pub NotesAt : Option PooledSession → Notice → Option PooledSession → Option ℕ → Type 0
NotesAt None notice after told = (after ≡ None) × (told ≡ None)
NotesAt (Some g) notice after told = NotesOne g notice after told
