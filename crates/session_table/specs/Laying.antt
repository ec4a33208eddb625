-- Where a session goes that a thread lays down. Its conversation comes in; whether it may wait there comes out.
use Rattle.std.specs.Prelude.{◌≡◌, ◌⊎◌, [], Some}
use Rattle.ldap_session.specs.View.{ConversationValue}
use Rattle.ldap_session.specs.declared.due.Due.TheVariants.{Nothing as DueNothing, Update as DueUpdate, Other as DueOther}
use Rattle.ldap_session.specs.declared.end.SessionEnd.TheVariants.{WriteFailed}
use Rattle.session_turns.specs.declared.spot.Queue.TheVariants.{Silent, Inside, Unsent, Leaving, Delayed}
use Rattle.session_table.specs.Attending.{IsAllSaid}
use Rattle.session_table.specs.Waiting.{WaitsFor}
use Rattle.session_table.specs.declared.laying.Destination.{Destination}
use Rattle.session_table.specs.declared.laying.Destination.TheVariants.{Parks, LinesUp, Ends}
use Rattle.session_table.specs.declared.place_state.Turn.TheVariants.{Seat, Update}

-- A session waits for its client's octets where all is said and no whole message is left over, in the queue of those
-- inside a message only inside one; for its client to take octets where some are unsent; for a thread that updates where
-- an update is next, and for a seat, at once or after a while, where another message is. It ends as its conversation did,
-- or where a write has failed.
abbrev pub Fits : ConversationValue → Destination → Type 0
Fits v (Parks Silent) = IsAllSaid v DueNothing × WaitsFor v.session Silent
Fits v (Parks Inside) = IsAllSaid v DueNothing × WaitsFor v.session Inside
Fits v (Parks Unsent) = v.unsent ≡ [] → ⊥
Fits v (Parks Leaving) = ⊥
Fits v (Parks Delayed) = IsAllSaid v DueOther
Fits v (LinesUp Seat) = IsAllSaid v DueOther
Fits v (LinesUp Update) = IsAllSaid v DueUpdate
Fits v (Ends end) = ((v.unsent ≡ []) × (v.end ≡ Some end)) ⊎ (end ≡ WriteFailed)
