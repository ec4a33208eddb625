-- The room in the queues of classes, and what is kept of those that wait.
use Rattle.std.specs.Prelude.{◌≡◌, ◌≤◌, ℕ}
use Rattle.std.specs.VecDeque.{deque_capacity}
use Rattle.session_turns.specs.Turning.{how_many_in}
use Rattle.session_turns.specs.Queued.{queued}
use Rattle.session_turns.specs.declared.owing.Class.{Class}
use Rattle.session_turns.specs.declared.owing.Class.TheVariants.{First, Second, Third, Last}
use Rattle.session_turns.specs.declared.class_queues.ClassQueues.{ClassQueues}

-- for how many there is room in a class
abbrev pub room_in : ClassQueues → Class → ℕ
room_in q First = deque_capacity q.first
room_in q Second = deque_capacity q.second
room_in q Third = deque_capacity q.third
room_in q Last = deque_capacity q.last

-- so many wait, there is room for all in each class, and at most seven were taken since the one that had waited longest
pub record AreKept (q : ClassQueues) (passed waiting room : ℕ) : Type 0 where
  pub counted : waiting ≡ how_many_in (queued q)
  pub within : waiting ≤ room
  pub roomy : (class : Class) → room ≤ room_in q class
  pub at_most : passed ≤ 7
