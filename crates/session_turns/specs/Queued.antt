-- The queues of classes as lists.
use Rattle.session_turns.specs.Turning.{Queues}
use Rattle.session_turns.specs.declared.class_queues.ClassQueues.{ClassQueues}

-- those that wait in each class
abbrev pub queued : ClassQueues → Queues
queued q = record { first = q.first.items; second = q.second.items; third = q.third.items; last = q.last.items }
