-- Schedules with searches, and what they show.
use Rattle.std.specs.Prelude.{ℕ, List, [], ◌∷◌, ◌++◌, cond, map, nat_lt, length, take, drop, reverse, Option, Some, None}
use Rattle.vr_state.specs.State.{State, is_recovering}
use Rattle.vr_state.specs.Words.{LogEntry}
use Rattle.vr_world.specs.World.{World, run, start}
use Rattle.vr_world.specs.declared.events.WorldEvent.{WorldEvent}
use Rattle.vr_world.specs.declared.words.ReplyBy.{ReplyBy}
use Rattle.dir_search.specs.ldap_msg.Messages.{SearchRequestValue}
use Rattle.dir_search.specs.ldap_msg.View.{search_view}
use Rattle.state_machine.specs.Executing.{ops_of}
use Rattle.state_machine.specs.dir_store.ldap_schema.Schema.{SchemaModel}
use Rattle.state_machine.specs.dir_store.ldap_dn.Names.{RdnModel}
use Rattle.state_machine.specs.dir_store.ldap_op.Values.{OpValue}
use Rattle.state_machine.specs.dir_store.Updates.{directory_of, replies_of}
use Rattle.dir_search.specs.Answer.{answer}
use Rattle.dir_lab.specs.Shown.{Shown, Replied, Unavailable, NotYet, Answered, standing, code_at}
use Rattle.dir_lab.specs.declared.events.LabEvent.{LabEvent}
use Rattle.dir_lab.specs.declared.events.LabEvent.TheVariants.{Happens, Search, State as Question}

-- What happens in the world at an event of a schedule; at a search or a question nothing does.
abbrev pub happening : LabEvent → List (WorldEvent OpValue)
happening (Happens e) = e ∷ []
happening e = []

-- What happens at all of these, one after another.
abbrev pub happenings : List LabEvent → List (WorldEvent OpValue)
happenings [] = []
happenings (e ∷ es) = happening e ++ happenings es

-- The records that a replica has executed: as many of its log as its commit-number says (VRR 4.1); none, where it is
-- down.
abbrev pub executed : Option (State OpValue) → List (LogEntry OpValue)
executed None = []
executed (Some r) = take r.commit_number r.log

-- What each replica of a world has executed.
abbrev pub executions : World OpValue → ℕ → List (LogEntry OpValue)
executions w i = executed (w.replicas i)

-- What a search shows at a replica that has executed these records: unavailable, where it is down or recovering; not
-- yet, where it has committed less than the number that was named; else the answer over the directory of the records,
-- at the replica's commit-number.
abbrev pub found : SchemaModel → List RdnModel → List (LogEntry OpValue) → ℕ → SearchRequestValue →
    Option (State OpValue) → Shown
found s root records named q None = Unavailable
found s root records named q (Some r) =
    cond (is_recovering r.status) Unavailable
    (cond (nat_lt r.commit_number named) (NotYet r.commit_number)
    (Answered r.commit_number (answer (directory_of s root (ops_of records)) q)))

-- A reply as it is shown: its code is that of the reply to the record at its place, among those that its replica has
-- executed.
abbrev pub told : SchemaModel → List RdnModel → (ℕ → List (LogEntry OpValue)) → ReplyBy → Shown
told s root records t = Replied t (code_at (replies_of s root (ops_of (records t.replica))) t.reply.op_number)

-- The replies that came from one world to another, the oldest first.
abbrev pub given_since : World OpValue → World OpValue → List ReplyBy
given_since old new = drop (length old.replies) (reverse new.replies)

-- What is shown at an event that leads from one world to another: the replies that were given, the answer, the state
-- that is asked for.
abbrev pub shown_at : SchemaModel → List RdnModel → ℕ → (ℕ → List (LogEntry OpValue)) → World OpValue →
    World OpValue → LabEvent → List Shown
shown_at s root n records old new (Happens e) = map (told s root records) (given_since old new)
shown_at s root n records old new (Search i named q) = cond (nat_lt i n) (found s root (records i) named
    (search_view q) (new.replicas i) ∷ []) []
shown_at s root n records old new (Question i) = cond (nat_lt i n) (standing i (new.replicas i) ∷ []) []

-- What is shown at all of these, from this world on.
abbrev pub shown_from : SchemaModel → List RdnModel → ℕ → List LabEvent → World OpValue → List Shown
shown_from s root n [] w = []
shown_from s root n (e ∷ es) w =
    shown_at s root n (executions (run n (happening e) w)) w (run n (happening e) w) e ++ shown_from s root n es
    (run n (happening e) w)

-- What a schedule shows with n replicas, from the first world on.
abbrev pub shown_by : SchemaModel → List RdnModel → ℕ → List LabEvent → List Shown
shown_by s root n es = shown_from s root n es (start n)
