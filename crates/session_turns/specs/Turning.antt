-- Whose turn at a seat it is. Who waits in which class comes in; who is next, and who waits then comes out.
use Rattle.std.specs.Prelude.{◌≡◌, ◌⊎◌, ◌<◌, ◌+◌, ◌*◌, ◌/◌, ℕ, Bool, true, false, cond, nat_le, nat_lt, min, List, [], ◌∷◌, ◌++◌, length, drop, slice_get, Option, Some, None}
use Rattle.session_turns.specs.declared.owing.Class.{Class}
use Rattle.session_turns.specs.declared.owing.Class.TheVariants.{First, Second, Third, Last}
use Rattle.session_turns.specs.declared.class_queues.Waiting.{Waiting}

-- those that wait in each class, first in, first out
pub record Queues : Type 0 where
  pub first : List Waiting
  pub second : List Waiting
  pub third : List Waiting
  pub last : List Waiting

-- those of a class
abbrev pub queue : Queues → Class → List Waiting
queue q First = q.first
queue q Second = q.second
queue q Third = q.third
queue q Last = q.last

-- a class of which these wait
abbrev pub put : Queues → Class → List Waiting → Queues
put q First ws = record q { first = ws }
put q Second ws = record q { second = ws }
put q Third ws = record q { third = ws }
put q Last ws = record q { last = ws }

-- nobody waits
abbrev pub no_queues : Queues
no_queues = record { first = []; second = []; third = []; last = [] }

-- whether two classes are one
abbrev pub is_class : Class → Class → Bool
is_class First First = true
is_class Second Second = true
is_class Third Third = true
is_class Last Last = true
is_class a b = false

-- whether one lined up before another, if both are there
abbrev pub is_before : Option Waiting → Option Waiting → Bool
is_before None b = false
is_before (Some a) None = true
is_before (Some a) (Some b) = nat_lt a.turn b.turn

-- of two classes the one whose first has waited longer
abbrev pub older : Queues → Class → Class → Class
older q a b = cond (is_before (slice_get (queue q b) 0) (slice_get (queue q a) 0)) b a

-- the class whose first has waited longest of all
abbrev pub oldest : Queues → Class
oldest q = older q (older q First Second) (older q Third Last)

-- whether nobody waits in a queue
abbrev pub is_empty : List Waiting → Bool
is_empty [] = true
is_empty (w ∷ ws) = false

-- the least class in which one waits
abbrev pub least : Queues → Class
least q = cond (is_empty q.first) (cond (is_empty q.second) (cond (is_empty q.third) Last Third) Second) First

-- Those that wait, the number of the next turn, how many were taken since the last one that had waited longest of all,
-- and for how many there is room.
pub record TurnsValue : Type 0 where
  pub queues : Queues
  pub next : ℕ
  pub passed : ℕ
  pub room : ℕ

-- nobody waits, and there is room for so many
abbrev pub nobody : ℕ → TurnsValue
nobody room = record { queues = no_queues; next = 0; passed = 0; room = room }

-- how many wait
abbrev pub how_many_in : Queues → ℕ
how_many_in q = length q.first + length q.second + length q.third + length q.last

abbrev pub how_many : TurnsValue → ℕ
how_many v = how_many_in v.queues

-- A place waits in a class behind all others of it; turns have numbers of 64 bits.
abbrev pub lined_up : TurnsValue → ℕ → Class → TurnsValue
lined_up v place class =
    record v {
      queues = put v.queues class (queue v.queues class ++ record { turn = v.next; place = place } ∷ []);
      next = min (v.next + 1) 18446744073709551615;
    }

-- The class of which one is taken: the least, unless seven were taken since the one that had waited longest of all.
abbrev pub chosen : TurnsValue → Class
chosen v = cond (nat_le 7 v.passed) (oldest v.queues) (least v.queues)

-- who is taken next
abbrev pub next_one : TurnsValue → Option Waiting
next_one v = slice_get (queue v.queues (chosen v)) 0

abbrev pub place_of : Option Waiting → Option ℕ
place_of None = None
place_of (Some w) = Some w.place

-- the place of who is taken next
abbrev pub next_place : TurnsValue → Option ℕ
next_place v = place_of (next_one v)

-- the first of a class is taken
abbrev pub taken_of : Class → TurnsValue → TurnsValue
taken_of class v =
    record v {
      queues = put v.queues class (drop 1 (queue v.queues class));
      passed =
          cond (is_class class (oldest v.queues)) 0 (v.passed + 1);
    }

abbrev pub taken_if : Option Waiting → TurnsValue → TurnsValue
taken_if None v = v
taken_if (Some w) v = taken_of (chosen v) v

-- who is next is taken, if one waits
abbrev pub taken : TurnsValue → TurnsValue
taken v = taken_if (next_one v) v

-- one lines up, or one is taken
pub data TurnEvent : Type 0 where
  lines_up : ℕ → Class → TurnEvent
  takes : TurnEvent

-- what is known after it
abbrev pub turned : TurnEvent → TurnsValue → TurnsValue
turned (lines_up place class) v = lined_up v place class
turned takes v = taken v

-- and after many
abbrev pub turned_all : List TurnEvent → TurnsValue → TurnsValue
turned_all [] v = v
turned_all (e ∷ es) v = turned_all es (turned e v)

-- how many takes there are among events
abbrev pub how_many_takes : List TurnEvent → ℕ
how_many_takes [] = 0
how_many_takes (lines_up place class ∷ es) = how_many_takes es
how_many_takes (takes ∷ es) = how_many_takes es + 1

-- the one of this turn waits in a queue
abbrev pub Waits : List Waiting → ℕ → Type 0
Waits [] turn = ⊥
Waits (w ∷ ws) turn = (w.turn ≡ turn) ⊎ Waits ws turn

-- how many wait in a queue whose turns are no later than this
abbrev pub up_to : ℕ → List Waiting → ℕ
up_to turn [] = 0
up_to turn (w ∷ ws) = cond (nat_le w.turn turn) 1 0 + up_to turn ws

-- and in all queues
abbrev pub up_to_in_all : ℕ → Queues → ℕ
up_to_in_all turn q = up_to turn q.first + up_to turn q.second + up_to turn q.third + up_to turn q.last

-- Whatever was lined up and taken before, and is then: one that is the nth of all that wait, itself counted, and still
-- waits after some takes, waits after fewer than 8 n of them. Turns have numbers of 64 bits.
abbrev pub EachIsTakenInTime : Type 0
EachIsTakenInTime =
    (room : ℕ) (before after : List TurnEvent) (class : Class) (turn : ℕ) → turn < 18446744073709551615 →
    Waits (queue (turned_all before (nobody room)).queues class) turn →
    Waits (queue (turned_all after (turned_all before (nobody room))).queues class) turn →
    how_many_takes after < 8 * up_to_in_all turn (turned_all before (nobody room)).queues

-- The same of one of the first class: one that is the nth of its class has waited for fewer than n takes, and a seventh
-- of that beside.
abbrev pub FirstOnesAreTakenSoon : Type 0
FirstOnesAreTakenSoon =
    (room : ℕ) (before after : List TurnEvent) (turn : ℕ) → turn < 18446744073709551615 →
    Waits (turned_all before (nobody room)).queues.first turn →
    Waits (turned_all after (turned_all before (nobody room))).queues.first turn →
    how_many_takes after < up_to turn (turned_all before (nobody room)).queues.first +
    (up_to turn (turned_all before (nobody room)).queues.first + 6) / 7
