-- Where the sessions of places are, and the lists of places beside that. Plain lists come in; whether they agree comes
-- out.
use Rattle.std.specs.Prelude.{ℕ, ◌+◌, List, [], ◌∷◌, ◌++◌, Bool, true, false, cond, nat_eq, Option, None, Some}
use Rattle.session_turns.specs.Turning.{Queues}
use Rattle.session_turns.specs.declared.class_queues.Waiting.{Waiting}
use Rattle.session_turns.specs.declared.spot.Spot.{Spot}
use Rattle.session_turns.specs.declared.spot.Spot.TheVariants.{In}
use Rattle.session_table.specs.declared.place_state.PlaceState.{PlaceState}
use Rattle.session_table.specs.declared.place_state.PlaceState.TheVariants.{New, Free, Waits, Ready, Updates}

-- the places of those that wait in a queue
abbrev pub places_of : List Waiting → List ℕ
places_of [] = []
places_of (w ∷ ws) = w.place ∷ places_of ws

-- and in all queues of those that wait for a seat
abbrev pub places_in : Queues → List ℕ
places_in q = places_of q.first ++ (places_of q.second ++ (places_of q.third ++ places_of q.last))

-- how often a place is in a list
abbrev pub times : ℕ → List ℕ → ℕ
times p [] = 0
times p (q ∷ qs) = cond (nat_eq p q) 1 0 + times p qs

-- once, where a place stands so
abbrev pub once : (PlaceState → Bool) → Option PlaceState → ℕ
once is None = 0
once is (Some s) = cond (is s) 1 0

-- whether a place was ever given
abbrev pub is_made : Option PlaceState → Bool
is_made None = false
is_made (Some New) = false
is_made (Some s) = true

-- whether a place may be given, and was given before
abbrev pub is_free : PlaceState → Bool
is_free Free = true
is_free s = false

-- whether the session of a place waits for a seat, or for a thread that updates
abbrev pub is_ready : PlaceState → Bool
is_ready Ready = true
is_ready s = false

-- whether a session is with a thread for updates
abbrev pub is_updates : PlaceState → Bool
is_updates Updates = true
is_updates s = false

-- whether the session of a place waits for its client
abbrev pub is_waiting : Option PlaceState → Bool
is_waiting (Some Waits) = true
is_waiting s = false

-- whether a place is in a queue of the book
abbrev pub is_in_queue : Option Spot → Bool
is_in_queue (Some (In queue turn)) = true
is_in_queue spot = false

-- whether a session is at its place
abbrev pub is_here : Option PlaceState → Bool
is_here (Some Waits) = true
is_here (Some Ready) = true
is_here (Some Updates) = true
is_here s = false

-- whether there is a place with a session in it
abbrev pub has_some : {G : Type 0} → Option (Option G) → Bool
has_some (Some (Some g)) = true
has_some g = false
