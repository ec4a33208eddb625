-- What a file held as it was opened and what was asked of it since, as the clauses of the devices speak of it. What
-- follows for a reader, and for a crash, is defined in journal and in view_store, by the record of a device in memory.
use Rattle.std.specs.Prelude.{ℕ, List, [], map}
use Rattle.journal.specs.Memory.{Event, nothing, write, grow, settle, seen_after}
use Rattle.view_store.specs.Memory.{Event as ViewEvent, nothing as view_nothing, write as view_write, settle as view_settle}

-- what a file held as it was opened, and what happened since, the newest first
pub record History : Type 0 where
  pub base : List ℕ
  pub events : List Event

-- a file of which nothing is known yet
abbrev pub no_history : History
no_history = record { base = []; events = [] }

-- what a read of a journal gives
abbrev pub octets_of : History → List ℕ
octets_of h = seen_after h.base h.events

-- what happened, as the rules of a stored view's device have it; it never grows
abbrev pub view_event : Event → ViewEvent
view_event nothing = view_nothing
view_event (write at octets is_done) = view_write at octets is_done
view_event (grow octets is_done) = view_nothing
view_event settle = view_settle

-- what happened to a stored view's file
abbrev pub view_events : History → List ViewEvent
view_events h = map view_event h.events
