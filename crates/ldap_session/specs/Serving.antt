-- A whole session, octets to octets: RFC 4511 3.1 and 5.
use Rattle.std.specs.Prelude.{◌≡◌, ◌⊎◌, ◌≤◌, ℕ, length, List, [], ◌∷◌, ◌++◌, Option, None}
use Rattle.std.specs.Io.KnownBytes.{Appends, Consumes, IsAtEnd}
use Rattle.session_handler.specs.ldap_msg.Messages.{MessageValue}
use Rattle.ldap_framer.specs.Stream.{Ending, awaits, stops, Reads}
use Rattle.session_handler.specs.directory_api.Talk.{Exchange, Along}
use Rattle.session_handler.specs.Responses.{notice}
use Rattle.session_handler.specs.Session.{ConfigValue, at_first}
use Rattle.session_handler.specs.declared.state.State.{State}
use Rattle.session_handler.specs.Turns.{Session}
use Rattle.session_handler.specs.declared.answered.Next.{Next}
use Rattle.session_handler.specs.declared.answered.Next.TheVariants.{GoesOn, Unbound as UnboundNext, Disconnected as DisconnectedNext}
use Rattle.ldap_session.specs.Octets.{octets_of, IsFront}
use Rattle.ldap_session.specs.View.{SessionValue}
use Rattle.ldap_session.specs.declared.end.SessionEnd.{SessionEnd}
use Rattle.ldap_session.specs.declared.end.SessionEnd.TheVariants.{Unbound, EndOfInput, Truncated, Disconnected, ReadFailed, WriteFailed, NoMemory}

-- what is no message stands behind the messages
abbrev pub IsStopped : Ending → Type 0
IsStopped (awaits rest) = ⊥
IsStopped (stops fault) = Unit {0}

-- a message is awaited behind the messages: nothing of it is there, or some is, or either
abbrev pub IsBetween : Ending → Type 0
IsBetween (awaits rest) = rest ≡ []
IsBetween (stops fault) = ⊥

-- whether octets of a message stand at the end, which isn't whole
abbrev pub IsInside : Ending → Type 0
IsInside (awaits rest) = rest ≡ [] → ⊥
IsInside (stops fault) = ⊥

-- whether further octets may follow
abbrev pub IsAwaiting : Ending → Type 0
IsAwaiting (awaits rest) = Unit {0}
IsAwaiting (stops fault) = ⊥

-- The notice is due: every message is answered, none of them ends the session, and what stands behind them is no
-- message.
abbrev pub IsNoticeDue : Next → List MessageValue → Ending → Type 0
IsNoticeDue next more ending = (next ≡ GoesOn) × (more ≡ []) × IsStopped ending

-- A front of what is due is written: of the responses, and of the notice behind them only where that is due.
abbrev pub IsFrontDue : (List MessageValue → List ℕ) → Next → List MessageValue → Ending → List MessageValue →
    List ℕ → Type 0
IsFrontDue shown next more ending responses written =
    IsFront written (shown responses) ⊎ (IsNoticeDue next more ending
    × IsFront written (shown (responses ++ notice ∷ [])))

-- What each end says. Unbound: the client unbound. Disconnected: a message is no request, or what stands behind the
-- messages is no message and was answered by the notice. At the end of the input and after a failed read all messages
-- are answered, a further one is awaited, and all responses are written; after a failed write and without memory a
-- front of what is due is.
abbrev pub IsEnd : (List MessageValue → List ℕ) → SessionEnd → Next → List MessageValue → Ending → List MessageValue →
    List ℕ → Type 0
IsEnd shown Unbound next more ending responses written = (next ≡ UnboundNext) × (written ≡ shown responses)
IsEnd shown Disconnected next more ending responses written =
    ((next ≡ DisconnectedNext) × (written ≡ shown responses))
    ⊎ (IsNoticeDue next more ending × (written ≡ shown (responses ++ notice ∷ [])))
IsEnd shown EndOfInput next more ending responses written = (next ≡ GoesOn) × (more ≡ []) × IsBetween ending
    × (written ≡ shown responses)
IsEnd shown Truncated next more ending responses written = (next ≡ GoesOn) × (more ≡ []) × IsInside ending
    × (written ≡ shown responses)
IsEnd shown ReadFailed next more ending responses written = (next ≡ GoesOn) × (more ≡ []) × IsAwaiting ending
    × (written ≡ shown responses)
IsEnd shown WriteFailed next more ending responses written = IsFrontDue shown next more ending responses written
IsEnd shown NoMemory next more ending responses written = IsFrontDue shown next more ending responses written

-- The responses to all messages but at most the last are written whole, along the front of the talk that these were
-- answered by: once a write has failed, no further message is taken.
pub record IsWholeBefore {T : Type 0} (shown : List MessageValue → List ℕ) (c : ConfigValue)
    (handed : List MessageValue) (talk : List (Exchange T)) (responses : List MessageValue) (written : List ℕ) :
    Type 0 where
  pub earlier : List MessageValue
  pub last : List MessageValue
  pub talk_before : List (Exchange T)
  pub talk_last : List (Exchange T)
  pub said : List MessageValue
  pub said_last : List MessageValue
  pub state : State
  pub handed_are : handed ≡ earlier ++ last
  pub at_most_one : length last ≤ 1
  pub talk_is : talk ≡ talk_before ++ talk_last
  pub responses_are : responses ≡ said ++ said_last
  pub session : Session c at_first earlier talk_before state said GoesOn
  pub whole : IsFront (shown said) written

-- A session that has ended: the messages of the octets read, up to the end, are answered by a session along a talk with
-- the directory, and what is written shows its responses, those to all messages but the last whole.
pub record Ends {D T : Type 0} (shown : List MessageValue → List ℕ) (allows : D → Exchange T → D → Type 0)
    (c : ConfigValue) (d e : D) (read written : List ℕ) (end : SessionEnd) : Type 0 where
  pub handed : List MessageValue
  pub more : List MessageValue
  pub ending : Ending
  pub talk : List (Exchange T)
  pub state : State
  pub responses : List MessageValue
  pub next : Next
  pub reads : Reads read (handed ++ more) ending
  pub session : Session c at_first handed talk state responses next
  pub along : Along allows d talk e
  pub is_end : IsEnd shown end next more ending responses written
  pub before : IsWholeBefore shown c handed talk responses written

-- the input is at its end, where that is what ended the session
abbrev pub IsRead : SessionEnd → Option (List ℕ) → Type 0
IsRead EndOfInput left = IsAtEnd left
IsRead Truncated left = IsAtEnd left
IsRead Unbound left = Unit {0}
IsRead Disconnected left = Unit {0}
IsRead ReadFailed left = Unit {0}
IsRead WriteFailed left = Unit {0}
IsRead NoMemory left = Unit {0}

-- A reader and a writer are served: the octets that were read, but for what memory was wanting for, and the octets that
-- were written are those of a session that has ended.
pub record Served {D T : Type 0} (allows : D → Exchange T → D → Type 0) (c : ConfigValue) (d e : D)
    (input left output grown : Option (List ℕ)) (end : SessionEnd) : Type 0 where
  pub read : List ℕ
  pub dropped : List ℕ
  pub written : List ℕ
  pub consumed : Consumes input left (read ++ dropped)
  pub appended : Appends output grown written
  pub ends : Ends octets_of allows c d e read written end
  pub all : (end ≡ NoMemory → ⊥) → dropped ≡ []
  pub at_end : IsRead end left

-- every message that was read is answered, and what is left is awaited
pub record IsCaughtUp (s : SessionValue) : Type 0 where
  pub none_ready : s.framed.ready ≡ []
  pub no_fault : s.framed.fault ≡ None
