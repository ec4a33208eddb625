-- The sessions of a table. The table before and after a call comes in, with a session; what has become of it comes out.
use Rattle.std.specs.Prelude.{◌≡◌, ◌⊎◌, ◌-◌, ℕ, List, [], ◌∷◌, ◌++◌, slice_get, slice_set, Option, Some, None}
use Rattle.std.specs.Duration.{as_nanos}
use Rattle.std.specs.Time.{instant_nanos}
use Rattle.std.specs.declared.time.Duration.{Duration}
use Rattle.std.specs.declared.time.Instant.{Instant}
use Rattle.session_turns.specs.Places.{IsIn, HasPut, HasTaken, IsLongest, NoneIn}
use Rattle.session_turns.specs.Owing.{class_of}
use Rattle.session_turns.specs.Turning.{TurnsValue, next_place, taken, lined_up as turns_lined_up}
use Rattle.session_turns.specs.declared.owing.Class.{Class}
use Rattle.session_turns.specs.declared.spot.Queue.{Queue}
use Rattle.session_turns.specs.declared.spot.Queue.TheVariants.{Leaving}
use Rattle.session_turns.specs.declared.spot.Spot.{Spot}
use Rattle.session_table.specs.Attending.{IsSame}
use Rattle.session_table.specs.Waiting.{HasRoused, HasNoted}
use Rattle.session_table.specs.declared.pooled.Notice.{Notice}
use Rattle.session_table.specs.Posting.{IsPast}
use Rattle.session_table.specs.declared.pooled.PooledSession.{PooledSession}
use Rattle.session_table.specs.declared.places.Places.{Places}
use Rattle.session_table.specs.declared.place_state.PlaceState.{PlaceState}
use Rattle.session_table.specs.declared.place_state.PlaceState.TheVariants.{New, Free, Away, Waits, Ready, Updates}
use Rattle.session_table.specs.declared.place_state.Turn.{Turn}
use Rattle.session_table.specs.declared.place_state.Turn.TheVariants.{Seat, Update}

-- A table: where the session of each place is, the sessions that are at their places, which of them wait for their
-- clients in which queue, and the places of those that wait for a seat, each in its class, or for a thread that
-- updates, first in, first out.
pub record Tabled : Type 0 where
  pub stands : List PlaceState
  pub sessions : List (Option PooledSession)
  pub spots : List Spot
  pub ready : TurnsValue
  pub updates : List ℕ

-- the value that a table stands for
abbrev pub tabled : Places → Tabled
tabled t = record {
  stands = t.stands.items;
  sessions = t.sessions.items;
  spots = t.book;
  ready = t.ready;
  updates =
      t.updates.items;
}

-- the session of a place stands so
abbrev pub IsAt : Tabled → ℕ → PlaceState → Type 0
IsAt t p s = slice_get t.stands p ≡ Some s

-- a place may be given to a session that comes
abbrev pub IsFree : Tabled → ℕ → Type 0
IsFree t p = IsAt t p New ⊎ IsAt t p Free

-- this session is at its own place
pub record IsHome (t : Tabled) (g : PooledSession) (p : ℕ) : Type 0 where
  pub here : slice_get t.sessions p ≡ Some (Some g)
  pub own : g.place ≡ p

-- the session of a place, if both are there
abbrev pub flat : Option (Option PooledSession) → Option PooledSession
flat None = None
flat (Some g) = g

-- the session at a place, if one is there
abbrev pub session_at : Tabled → ℕ → Option PooledSession
session_at t p = flat (slice_get t.sessions p)

-- a free place is given to a session that comes, which a thread has; all else is as it was
pub record Claims (t : Tabled) (p : ℕ) (u : Tabled) : Type 0 where
  pub free : IsFree t p
  pub stands : u.stands ≡ slice_set t.stands p Away
  pub sessions : (q : ℕ) → session_at u q ≡ session_at t q
  pub spots : u.spots ≡ t.spots
  pub ready : u.ready ≡ t.ready
  pub updates : u.updates ≡ t.updates

-- a place is free again
abbrev pub freed : Tabled → ℕ → Tabled
freed t p = record t { stands = slice_set t.stands p Free }

-- a session that a thread had is at its place, where it waits for its client behind all others of a queue
pub record Parks (t : Tabled) (g : PooledSession) (queue : Queue) (u : Tabled) : Type 0 where
  pub away : IsAt t g.place Away
  pub put : HasPut t.spots g.place queue u.spots
  pub after : u ≡ record t {
    stands = slice_set t.stands g.place Waits;
    sessions = slice_set t.sessions g.place
        (Some g);
    spots = u.spots;
  }

-- the session of a place is behind all others that wait for their turn: for a seat, in its class
abbrev pub lined_up : Tabled → ℕ → Turn → Class → Tabled
lined_up t p Seat class = record t { stands = slice_set t.stands p Ready; ready = turns_lined_up t.ready p class }
lined_up t p Update class = record t { stands = slice_set t.stands p Updates; updates = t.updates ++ p ∷ [] }

-- a session that a thread had is at its place, where it waits for its turn behind all others: for a seat, in the class
-- of what it owes now
pub record LinesUp (t : Tabled) (g : PooledSession) (turn : Turn) (now : ℕ) (u : Tabled) : Type 0 where
  pub away : IsAt t g.place Away
  pub after : u ≡ lined_up (record t { sessions = slice_set t.sessions g.place (Some g) }) g.place turn
      (class_of g.debt now)

-- a thread has the session of a place
abbrev pub without : Tabled → ℕ → Tabled
without t p = record t { stands = slice_set t.stands p Away; sessions = slice_set t.sessions p None }

-- a thread takes the session of a place that waited for its client
pub record Wakes (t : Tabled) (p : ℕ) (g : PooledSession) (u : Tabled) : Type 0 where
  pub queue : Queue
  pub home : IsHome t g p
  pub taken : HasTaken t.spots p queue u.spots
  pub after : u ≡ record (without t p) { spots = u.spots }

-- a seat takes the session whose turn it is
pub record Sits (t : Tabled) (g : PooledSession) (u : Tabled) : Type 0 where
  pub place : ℕ
  pub home : IsHome t g place
  pub next : next_place t.ready ≡ Some place
  pub after : u ≡ record (without t place) { ready = taken t.ready }

-- a thread that updates takes the session that has waited longest for one
pub record Works (t : Tabled) (g : PooledSession) (u : Tabled) : Type 0 where
  pub place : ℕ
  pub home : IsHome t g place
  pub first : t.updates ≡ place ∷ u.updates
  pub after : u ≡ record (without t place) { updates = u.updates }

-- a session has waited for its client longest of a queue
pub record WaitsLongest (t : Tabled) (queue : Queue) (g : PooledSession) : Type 0 where
  pub place : ℕ
  pub home : IsHome t g place
  pub longest : IsLongest t.spots queue place

-- a session has waited longest for a thread that updates
pub record WaitsFirst (t : Tabled) (g : PooledSession) : Type 0 where
  pub place : ℕ
  pub home : IsHome t g place
  pub others : List ℕ
  pub first : t.updates ≡ place ∷ others

-- the session of a place waits for its turn: for a seat, or for a thread that updates
abbrev pub WaitsItsTurn : Tabled → ℕ → Type 0
WaitsItsTurn t p = IsAt t p Ready ⊎ IsAt t p Updates

-- the session of a place that waits for its turn is told this, and waits on
pub record Notes (t : Tabled) (p : ℕ) (notice : Notice) (u : Tabled) : Type 0 where
  pub before : PooledSession
  pub after : PooledSession
  pub turn : WaitsItsTurn t p
  pub home : IsHome t before p
  pub same : IsSame before after
  pub noted : HasNoted before notice after
  pub told : u ≡ record t { sessions = slice_set t.sessions p (Some after) }

-- the session of a place is over, and its client may still read
pub record IsLeaving (t : Tabled) (p : ℕ) (g : PooledSession) : Type 0 where
  pub turn : ℕ
  pub home : IsHome t g p
  pub is_in : IsIn t.spots p Leaving turn

-- the session of a place that waited for its client waits for its turn behind all others: for a thread that updates,
-- where its next message may be an update; else for a seat, in the class of what it owes now
pub record Rouses (t : Tabled) (p : ℕ) (turn : Turn) (now : ℕ) (u : Tabled) : Type 0 where
  pub before : PooledSession
  pub after : PooledSession
  pub queue : Queue
  pub home : IsHome t before p
  pub taken : HasTaken t.spots p queue u.spots
  pub roused : HasRoused before after turn
  pub lined : u ≡ lined_up (record t { sessions = slice_set t.sessions p (Some after); spots = u.spots }) p turn
      (class_of after.debt now)

-- none waits in a queue, or one that has waited longest has not waited for so long
pub record IsPatient (t : Tabled) (queue : Queue) (limit : Duration) (now : Instant) : Type 0 where
  pub pooled : PooledSession
  pub longest : WaitsLongest t queue pooled
  pub soon : IsPast pooled.since limit now → ⊥

-- none waits in the queue, or none has waited for the whole limit
abbrev pub NoneOverdue : Tabled → Queue → Duration → Instant → Type 0
NoneOverdue t queue limit now = NoneIn t.spots queue ⊎ IsPatient t queue limit now

-- a limit is left where none waits in a queue, and less by what one that has waited longest has waited
pub record IsLess (t : Tabled) (queue : Queue) (limit : Duration) (now : Instant) (left : Duration) : Type 0 where
  pub pooled : PooledSession
  pub longest : WaitsLongest t queue pooled
  pub less : as_nanos left ≡ as_nanos limit - (instant_nanos now - instant_nanos pooled.since)

-- the time that is left: the limit where none waits, else what is left of it for the one that has waited longest
abbrev pub LeavesTime : Tabled → Queue → Duration → Instant → Duration → Type 0
LeavesTime t queue limit now left = (NoneIn t.spots queue × (left ≡ limit)) ⊎ IsLess t queue limit now left
