-- Which seats rest, and whether one leads: waits for sockets, or looks at them. What is known before comes in; what a
-- seat does, whom it calls, and what is known then comes out.
use Rattle.std.specs.Prelude.{◌≡◌, ◌+◌, ◌-◌, ◌==◌, ◌||◌, ℕ, Bool, true, false, not, cond, nat_le, min, List, [], ◌∷◌}
use Rattle.session_turns.specs.declared.resting.Was.{Was}
use Rattle.session_turns.specs.declared.resting.Was.TheVariants.{Serving, Resting, Leading}
use Rattle.session_turns.specs.declared.resting.Act.{Act}
use Rattle.session_turns.specs.declared.resting.Act.TheVariants.{Serve, Lead as Leads, Rest}
use Rattle.session_turns.specs.declared.resting.Call.{Call}
use Rattle.session_turns.specs.declared.resting.Call.TheVariants.{Nobody, Seat, Leader}

-- whether a seat leads, how many rest, how many calls of one are under way, and how many sessions were taken since the
-- last look
pub record LeadValue : Type 0 where
  pub is_led : Bool
  pub idle : ℕ
  pub called : ℕ
  pub unlooked : ℕ

-- While seats rest, one leads, or a call of one is under way: so nobody rests while all sockets are left alone.
abbrev pub IsWatched : LeadValue → Type 0
IsWatched l = l.is_led ≡ false → l.called ≡ 0 → l.idle ≡ 0

-- no seat rests or leads
abbrev pub empty : LeadValue
empty = record { is_led = false; idle = 0; called = 0; unlooked = 0 }

-- one more, as far as 32 bits go
abbrev pub more : ℕ → ℕ
more n = min (n + 1) 4294967295

-- a seat leads, unless one does
abbrev pub begun : LeadValue → LeadValue
begun l = cond l.is_led l (record l { is_led = true; unlooked = 0 })

-- whom a thread calls: a seat at rest, else the one that leads, if there is one
abbrev pub whom : Bool → ℕ → Call
whom is_led idle = cond (idle == 0) (cond is_led Leader Nobody) Seat

-- and how many calls of a seat at rest are under way then
abbrev pub calls_after : ℕ → ℕ → ℕ
calls_after idle called = cond (idle == 0) called (more called)

-- the same of what is known
abbrev pub call_of : LeadValue → Call
call_of l = whom l.is_led l.idle

-- it is called
abbrev pub called : LeadValue → LeadValue
called l = record l { called = calls_after l.idle l.called }

-- no seat leads any more
abbrev pub laid_down : LeadValue → LeadValue
laid_down l = record l { is_led = false }

-- a seat is free, which did this before
abbrev pub left : Was → LeadValue → LeadValue
left Serving l = l
left Resting l = record l { idle = l.idle - 1; called = l.called - 1 }
left Leading l = laid_down l

-- What a free seat does where so many sessions are ready: it leads where none does, and nothing is ready or 16 sessions
-- were taken since the last look; it rests where another leads, and nothing is ready; else it serves.
abbrev pub choice : Bool → ℕ → ℕ → Act
choice is_led unlooked ready = cond is_led (cond (ready == 0) Rest Serve) (cond (ready == 0 || nat_le 16 unlooked)
    Leads Serve)

-- the same of what is known
abbrev pub chosen : LeadValue → ℕ → Act
chosen l ready = choice l.is_led l.unlooked ready

-- whom it calls: where further sessions are ready, or nobody leads
abbrev pub is_wanted : LeadValue → ℕ → Bool
is_wanted l ready = not l.is_led || nat_le 2 ready

-- what is known then
abbrev pub does : Act → LeadValue → ℕ → LeadValue
does Rest l ready = record l { idle = more l.idle }
does Leads l ready = record l { is_led = true; unlooked = 0 }
does Serve l ready = cond (is_wanted l ready) (called (record l { unlooked = more l.unlooked }))
    (record l { unlooked = more l.unlooked })

-- and whom it calls
abbrev pub calls : Act → LeadValue → ℕ → Call
calls Rest l ready = Nobody
calls Leads l ready = Nobody
calls Serve l ready = cond (is_wanted l ready) (call_of l) Nobody

-- a seat is free, which did this before, while so many sessions are ready
abbrev pub freed : Was → LeadValue → ℕ → LeadValue
freed was l ready = does (chosen (left was l) ready) (left was l) ready

-- what threads do: begin a look, end it, line a session up, or be free
pub data Event : Type 0 where
  begins : Event
  ends : Event
  lines_up : Event
  is_free : Was → ℕ → Event

-- what is known after it
abbrev pub then : Event → LeadValue → LeadValue
then begins l = begun l
then ends l = called (laid_down l)
then lines_up l = called l
then (is_free was ready) l = freed was l ready

-- and after many
abbrev pub then_all : List Event → LeadValue → LeadValue
then_all [] l = l
then_all (e ∷ es) l = then_all es (then e l)

-- Whatever threads do, in any order: while seats rest, one leads, or a call of one is under way.
abbrev pub WhoRestsIsWatched : Type 0
WhoRestsIsWatched = (events : List Event) → IsWatched (then_all events empty)
