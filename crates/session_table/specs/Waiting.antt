-- What a session waits for, since when, and what it is told meanwhile. The session before and after a call comes in; what
-- the call has changed comes out.
use Rattle.std.specs.Prelude.{◌≡◌, ◌⊎◌, ◌≤◌, ◌↔◌, ◌+◌, ◌-◌, ◌*◌, ◌/◌, min, true, ℕ, List, [], false, Option, Some, None, unwrap_or}
use Rattle.std.specs.Io.KnownBytes.{Consumes}
use Rattle.std.specs.Duration.{as_nanos, max_nanos}
use Rattle.std.specs.Time.{instant_nanos}
use Rattle.std.specs.declared.time.Duration.{Duration}
use Rattle.std.specs.declared.time.Instant.{Instant}
use Rattle.ldap_session.specs.View.{SessionValue, ConversationValue}
use Rattle.ldap_session.specs.Conversing.{IsFresh}
use Rattle.ldap_session.specs.Waiting.{bind_next}
use Rattle.ldap_session.specs.declared.due.Due.{Due}
use Rattle.ldap_session.specs.declared.due.Due.TheVariants.{Nothing as DueNothing, Update as DueUpdate, Other as DueOther}
use Rattle.ldap_session.specs.declared.end.SessionEnd.TheVariants.{WriteFailed}
use Rattle.session_turns.specs.declared.spot.Queue.{Queue}
use Rattle.session_turns.specs.declared.spot.Queue.TheVariants.{Silent, Inside, Unsent, Leaving, Delayed}
use Rattle.session_table.specs.Posting.{IsPast}
use Rattle.session_table.specs.declared.place_state.Turn.{Turn}
use Rattle.session_table.specs.declared.place_state.Turn.TheVariants.{Update}
use Rattle.session_table.specs.declared.pooled.PooledSession.{PooledSession}
use Rattle.session_table.specs.declared.pooled.ReadOutcome.{ReadOutcome}
use Rattle.session_table.specs.declared.pooled.ReadOutcome.TheVariants.{Octets, Nothing, Ends as HeardEnds}
use Rattle.session_table.specs.declared.pooled.Notice.{Notice}
use Rattle.session_table.specs.declared.pooled.Notice.TheVariants.{Over, SendsNoMore}
use Rattle.session_table.specs.declared.pooled.Then.{Then}
use Rattle.session_table.specs.declared.pooled.Then.TheVariants.{Listens, Updates, Queues, Delays, Waits, Ends as ThenEnds}
use Rattle.session_table.specs.Attending.{talk, due_next, IsSame, HearsSome, IsHeardEnd}

-- it has something to write, or its socket is to wait again
abbrev pub HasToWrite : PooledSession → Type 0
HasToWrite g = (talk g).unsent ≡ [] → g.is_stuck ≡ true

-- its client has let octets wait for so long, and as long again for each MiB that it has taken of them
abbrev pub IsSlow : PooledSession → Duration → Type 0
IsSlow g limit = min (as_nanos limit * min (g.taken / 1048576 + 1) 4294967295) max_nanos ≤ as_nanos g.waited

-- What a read of an input gave: octets, nothing, or the end.
abbrev pub HasHeard : Option (List ℕ) → Option (List ℕ) → ConversationValue → List ℕ → ConversationValue →
    ReadOutcome → Type 0
HasHeard input left v buffer w Octets = HearsSome input left v buffer w
HasHeard input left v buffer w Nothing = (w ≡ v) × Consumes input left []
HasHeard input left v buffer w (HeardEnds end) = (w ≡ v) × IsHeardEnd v end

-- a bind stands next that is to wait: three of its connection were refused, and it hasn't waited yet
pub record IsDelayed (g : PooledSession) : Type 0 where
  pub refused : 3 ≤ g.refusals
  pub first : g.has_waited ≡ false
  pub bind : bind_next (talk g).end (talk g).session.framed ≡ None → ⊥

-- its update has waited for a thread for too long, and stands next
pub record HasGivenUp (g : PooledSession) : Type 0 where
  pub refused : g.is_refused ≡ true
  pub next : due_next (talk g) ≡ DueUpdate

-- Why a session becomes this by a write: its client may take its time still; or a write has failed, which is tried only
-- where there is something to write, or an answer was too long.
abbrev pub HasCause : PooledSession → PooledSession → Duration → Then → Type 0
HasCause g h limit Listens = Unit {0}
HasCause g h limit Updates = Unit {0}
HasCause g h limit Queues = Unit {0}
HasCause g h limit Delays = IsDelayed h
HasCause g h limit Waits = IsSlow h limit → ⊥
HasCause g h limit (ThenEnds end) = end ≡ WriteFailed → HasToWrite g ⊎ ((talk h).end ≡ Some WriteFailed)

-- all its messages are answered, and the client has all answers; or its next message may be an update
pub record IsNext (g : PooledSession) (next : Due) : Type 0 where
  pub free : g.is_stuck ≡ false
  pub next_is : due_next (talk g) ≡ next

-- whether no whole message is left over
abbrev pub IsSilent : PooledSession → Type 0
IsSilent g = IsNext g DueNothing

-- whether the next message is an update
abbrev pub IsUpdateNext : PooledSession → Type 0
IsUpdateNext g = IsNext g DueUpdate

-- Since when a session waits inside of one message: as before, while no message is whole; not at all, once one is.
abbrev pub began_while : Due → Option Instant → Option Instant
began_while DueNothing began = began
began_while DueUpdate began = None
began_while DueOther began = None

-- the same, where it waits in a queue from now on: what waits inside of a message does so since then, or since it first
-- did
abbrev pub began_in : Queue → Option Instant → Instant → Option Instant
began_in Inside began now = Some (unwrap_or began now)
began_in Silent began now = None
began_in Unsent began now = None
began_in Leaving began now = None
began_in Delayed began now = None

-- it waits in a queue from now on, and nothing of what was heard and said has changed
pub record HasPaused (g : PooledSession) (queue : Queue) (now : Instant) (h : PooledSession) : Type 0 where
  pub same : IsSame g h
  pub kept : talk h ≡ talk g
  pub since : h.since ≡ now
  pub began : h.began ≡ began_in queue g.began now

-- it has waited inside of one message for so long
pub record IsLate (g : PooledSession) (limit : Duration) (now : Instant) : Type 0 where
  pub since : Instant
  pub began : g.began ≡ Some since
  pub past : IsPast since limit now

-- it waits no more: nothing of it has changed but how long its client has let octets wait
pub record HasWaited (g h : PooledSession) : Type 0 where
  pub same : IsSame g h
  pub began : h.began ≡ g.began
  pub kept : talk h ≡ talk g
  pub stuck : h.is_stuck ≡ g.is_stuck

-- how long its client has let octets wait: so far, and since it waits now
abbrev pub Counts : PooledSession → Instant → PooledSession → Type 0
Counts g now h = g.is_stuck ≡ true → as_nanos h.waited ≡
    min (as_nanos g.waited + (instant_nanos now - instant_nanos g.since)) max_nanos

-- and its next message is for whom it waits now
pub record HasRoused (g h : PooledSession) (turn : Turn) : Type 0 where
  pub waited : HasWaited g h
  pub turn_is : (turn ≡ Update) ↔ IsUpdateNext h

-- what it waits for in a stream that is none but messages: the rest of a message only inside one
abbrev pub WaitsFor : SessionValue → Queue → Type 0
WaitsFor s queue = s.framed.fault ≡ None →
    ((queue ≡ Silent) × (s.framed.rest ≡ [])) ⊎ ((queue ≡ Inside) × (s.framed.rest ≡ [] → ⊥))

-- what is told to a session that waits for its turn: it is over, and its conversation is a new one; or its client sends
-- no more, since then or before
abbrev pub HasNoted : PooledSession → Notice → PooledSession → Type 0
HasNoted g (Over end) h = (h.over ≡ Some (unwrap_or g.over end)) × (h.posted ≡ 0) × IsFresh (talk h)
HasNoted g (SendsNoMore now) h = (h.closed ≡ Some (unwrap_or g.closed now)) × (h.over ≡ g.over) × (talk h ≡ talk g)
