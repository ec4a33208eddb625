-- What happens in the world of the protocol at each event of a machine.
use Rattle.std.specs.Prelude.{◌≡◌, ◌≢◌, ◌⊎◌, ℕ, ◌-◌, ◌<◌, ◌≤◌, Bool, true, false, List, [], ◌∷◌, ◌++◌, length, take, min, max, Option, Some, None, Result, Ok, Err, slice_get}
use Rattle.std.specs.declared.alloc.AllocError.{AllocError}
use Rattle.dir_node.specs.Outcomes.{OutcomeValue, done, lost, pending, stale, standing_by}
use Rattle.dir_node.specs.declared.error.NodeError.TheVariants.{NoMemory}
use Rattle.dir_search.specs.Answer.{answer}
use Rattle.dir_search.specs.Compared.{compared}
use Rattle.dir_search.specs.directory_api.View.{answer_view, reply_view}
use Rattle.dir_search.specs.indexed_tree.Directory.{Directory}
use Rattle.dir_search.specs.ldap_msg.View.{compare_view, search_view}
use Rattle.state_machine.specs.Executing.{ops_of}
use Rattle.state_machine.specs.directory_api.Answers.{ReplyModel}
use Rattle.state_machine.specs.dir_store.Updates.{directory_of, replies_of}
use Rattle.state_machine.specs.dir_store.ldap_dn.Names.{RdnModel}
use Rattle.state_machine.specs.dir_store.ldap_op.Values.{OpValue}
use Rattle.state_machine.specs.dir_store.ldap_schema.Schema.{SchemaModel}
use Rattle.vr_state.specs.ClientTable.{latest}
use Rattle.vr_state.specs.Lists.{EntryAt}
use Rattle.vr_state.specs.State.{State, leads, primary}
use Rattle.vr_state.specs.Words.{Client, LogEntry}
use Rattle.vr_state.specs.declared.message.Change.{Change}
use Rattle.vr_state.specs.declared.message.Outputs.{Outputs}
use Rattle.vr_state.specs.declared.words.Latest.{Latest}
use Rattle.vr_wire.specs.Frames.{frame_octets, limit}
use Rattle.vr_wire.specs.Parts.{AreFramesOf, IsUnsent, TellMessage}
use Rattle.vr_wire.specs.Payloads.{written}
use Rattle.vr_wire.specs.declared.error.WireError.TheVariants.{BadFrame}
use Rattle.vr_wire.specs.declared.parts.FrameSizes.{FrameSizes}
use Rattle.vr_world.specs.Committed.{committed}
use Rattle.vr_world.specs.World.{World, answered, happens, posted, run, sent_as}
use Rattle.vr_world.specs.declared.events.WorldEvent.{WorldEvent}
use Rattle.vr_world.specs.declared.events.WorldEvent.TheVariants.{Request, Deliver, Suspect, Beat, Crash, Recover, Resume}
use Rattle.vr_world.specs.declared.words.Message.{Message}
use Rattle.dir_machine.specs.Shown.{unborn, up, down, became_view, frame_in, message_at, message_framed, octets_of, places_in, stage}
use Rattle.dir_machine.specs.declared.events.FramePlace.{FramePlace}
use Rattle.dir_machine.specs.declared.events.Given.{Given}
use Rattle.dir_machine.specs.declared.events.Given.TheVariants as given
use Rattle.dir_machine.specs.declared.events.MachineEvent.{MachineEvent}
use Rattle.dir_machine.specs.declared.events.MachineEvent.TheVariants as event
use Rattle.dir_machine.specs.declared.events.Place.{Place}
use Rattle.dir_machine.specs.declared.replies.MachineReply.{MachineReply}
use Rattle.dir_machine.specs.declared.replies.MachineReply.TheVariants as reply

-- A message of the world, by its number, is the one that was given out for replica i at a place.
pub record IsDelivery (before : List MachineReply) (i : ℕ) (o : Option (Message OpValue)) (w : World OpValue)
    (x : WorldEvent OpValue) : Type 0 where
  pub number : ℕ
  pub message : Message OpValue
  pub shown : o ≡ Some message
  pub to : message.to ≡ i
  pub sent : sent_as number w.messages ≡ Some message
  pub is : x ≡ Deliver number

-- The last of the frames at these places are all those that an event wrote, in order.
pub record EndsWithAll (before : List MachineReply) (e : ℕ) (places : List FramePlace) : Type 0 where
  pub earlier : List FramePlace
  pub all : places ≡ earlier ++ places_in e (slice_get before e)

-- What a replica is given is this event of the world. Frames are the delivery of their message, once all have come.
abbrev pub IsThat : List MachineReply → ℕ → Given → World OpValue → WorldEvent OpValue → Type 0
IsThat before i (given.Request entry) w x = x ≡ Request i entry
IsThat before i (given.Message place) w x = IsDelivery before i (message_at before place) w x
IsThat before i (given.Frames e heard) w x = IsDelivery before i (message_framed before e) w x
IsThat before i (given.Heard places) w x =
    (e : ℕ) × EndsWithAll before e places.items × IsDelivery before i (message_framed before e) w x
IsThat before i given.Suspect w x = x ≡ Suspect i
IsThat before i given.Beat w x = x ≡ Beat i

-- What replica i gave out is what this event of the world sends and answers.
pub record GivesOut (n i : ℕ) (out : Outputs OpValue) (x : WorldEvent OpValue) (w : World OpValue) : Type 0 where
  pub sends : (happens n w x).messages ≡ posted i out.sends.items w.messages
  pub replies : (happens n w x).replies ≡ answered i out.replies.items w.replies

-- Of what a replica is given, each that it took is one event of the world, in order, and gave out what that sends and
-- answers; the others are left out.
abbrev pub TakesEach : ℕ → List MachineReply → ℕ → List Given → List (Result (Outputs OpValue) AllocError) →
    List (WorldEvent OpValue) → World OpValue → Type 0
TakesEach n before i [] [] [] w = Unit {0}
TakesEach n before i (g ∷ gs) (Ok out ∷ outs) (x ∷ h) w = IsThat before i g w x × GivesOut n i out x w
    × TakesEach n before i gs outs h (happens n w x)
TakesEach n before i (g ∷ gs) (Err e ∷ outs) h w = TakesEach n before i gs outs h w
TakesEach n before i _ _ _ w = ⊥

-- Of some first of what a replica is given, each is one event of the world, in order, or is left out.
abbrev pub TakesSome : ℕ → List MachineReply → ℕ → List Given → List (WorldEvent OpValue) → World OpValue → Type 0
TakesSome n before i [] h w = h ≡ []
TakesSome n before i (g ∷ gs) h w = (h ≡ []) ⊎ TakesSome n before i gs h w
    ⊎ ((x : WorldEvent OpValue) × (rest : List (WorldEvent OpValue)) × (h ≡ x ∷ rest) × IsThat before i g w x
    × TakesSome n before i gs rest (happens n w x))

-- The process ended inside a call: replica i crashes after some first of what it was given. What these events send and
-- answer is shown nowhere.
pub record EndsInside (n : ℕ) (before : List MachineReply) (i : ℕ) (gs : List Given) (h : List (WorldEvent OpValue))
    (w : World OpValue) : Type 0 where
  pub taken : List (WorldEvent OpValue)
  pub some : TakesSome n before i gs taken w
  pub crash : h ≡ taken ++ Crash i ∷ []

-- No frame at one of these places was written for replica i.
abbrev pub IsOneUnwritten : List MachineReply → ℕ → List FramePlace → Type 0
IsOneUnwritten before i [] = ⊥
IsOneUnwritten before i (p ∷ places) = (frame_in i (slice_get before p.event) p.frame ≡ None)
    ⊎ IsOneUnwritten before i places

-- No message was given out for replica i there, or its frames haven't all come.
abbrev pub IsMissing : List MachineReply → ℕ → Given → Type 0
IsMissing before i (given.Message place) = (m : Message OpValue) → message_at before place ≡ Some m → m.to ≢ i
IsMissing before i (given.Frames e heard) = (m : Message OpValue) → message_framed before e ≡ Some m → m.to ≢ i
IsMissing before i (given.Heard places) = IsOneUnwritten before i places.items
    ⊎ ((e : ℕ) (m : Message OpValue) → message_framed before e ≡ Some m → EndsWithAll before e places.items → ⊥)
IsMissing before i _ = ⊥

-- So with one of these.
abbrev pub IsOneMissing : List MachineReply → ℕ → List Given → Type 0
IsOneMissing before i [] = ⊥
IsOneMissing before i (g ∷ gs) = IsMissing before i g ⊎ IsOneMissing before i gs

-- There is no replica i, or it isn't up.
abbrev pub IsAway : ℕ → List MachineReply → ℕ → Type 0
IsAway n before i = (n ≤ i) ⊎ (stage before i ≢ up)

-- There is no replica i, or it is up already.
abbrev pub IsNotToStart : ℕ → List MachineReply → ℕ → Type 0
IsNotToStart n before i = (n ≤ i) ⊎ (stage before i ≡ up)

-- These are the frames of a message of this number, by these sizes, and they tell it.
pub record AreWrittenAs (cluster number : ℕ) (sizes : FrameSizes) (m : Message OpValue) (frames : List (List ℕ)) :
    Type 0 where
  pub by_sizes : AreFramesOf (min sizes.most limit) (max sizes.part_size 1) cluster m.from number (written m.body)
      frames
  pub tell : TellMessage cluster m.from number m.body frames

-- A message can't be sent: its sender's index isn't one octet, or what it says isn't in range, or one frame of it would
-- have 2 ^ 32 octets or more.
abbrev pub IsUnsendable : ℕ → Message OpValue → Type 0
IsUnsendable cluster m = (256 ≤ m.from) ⊎ IsUnsent BadFrame m.body (frame_octets cluster m.from (written m.body))

-- What is shown of the message at a place that is to be written: its frames, or that it can't be sent, or that none was
-- given out there.
abbrev pub IsWritten : ℕ → List MachineReply → Place → FrameSizes → MachineReply → Type 0
IsWritten cluster before place sizes (reply.Written at to frames) =
    (at ≡ place) × (m : Message OpValue) × (message_at before place ≡ Some m) × (to ≡ m.to)
    × AreWrittenAs cluster (length before) sizes m (octets_of frames.items)
IsWritten cluster before place sizes (reply.Unwritten at) =
    (at ≡ place) × (m : Message OpValue) × (message_at before place ≡ Some m) × IsUnsendable cluster m
IsWritten cluster before place sizes reply.Nothing = message_at before place ≡ None
IsWritten cluster before place sizes _ = ⊥

-- A first start is nothing in the world: each replica of it is there from the beginning.
pub record StartsFirst (before : List MachineReply) (i restarts : ℕ) (out : Outputs OpValue)
    (h : List (WorldEvent OpValue)) : Type 0 where
  pub first : stage before i ≡ unborn
  pub restarts_is : restarts ≡ 1
  pub sends : out.sends.items ≡ []
  pub nothing : h ≡ []

-- A later start without a journal is a recovery, with the number of the start as its nonce.
pub record StartsAgain (n : ℕ) (journaled : Bool) (before : List MachineReply) (i restarts : ℕ)
    (out : Outputs OpValue) (h : List (WorldEvent OpValue)) (w : World OpValue) : Type 0 where
  pub alone : journaled ≡ false
  pub again : stage before i ≡ down
  pub gives : GivesOut n i out (Recover i restarts) w
  pub one : h ≡ Recover i restarts ∷ []

-- A later start over a journal goes on as that has kept the replica, with some of what it had committed.
pub record GoesOnOver (n : ℕ) (journaled : Bool) (before : List MachineReply) (i : ℕ) (out : Outputs OpValue)
    (h : List (WorldEvent OpValue)) (w : World OpValue) : Type 0 where
  pub over : journaled ≡ true
  pub again : stage before i ≡ down
  pub kept : Change OpValue
  pub is_kept : w.kept i ≡ Some kept
  pub many : ℕ
  pub low : many ≤ kept.commit_number
  pub gives : GivesOut n i out (Resume i many) w
  pub one : h ≡ Resume i many ∷ []

-- A request is at one place of what is committed, that client's with that number, with that reply.
pub record IsMadeIn (s : SchemaModel) (root : List RdnModel) (l : List (LogEntry OpValue)) (client : Client)
    (number place : ℕ) (reply : ReplyModel) : Type 0 where
  pub entry : LogEntry OpValue
  pub at : EntryAt entry place l
  pub client_is : entry.client ≡ client
  pub number_is : entry.request_number ≡ number
  pub reply_is : slice_get (replies_of s root (ops_of l)) (place - 1) ≡ Some reply

-- A request that is done is in what is committed by then.
abbrev pub IsDoneIn : SchemaModel → List RdnModel → List (LogEntry OpValue) → Client → ℕ → OutcomeValue → Type 0
IsDoneIn s root l client number (done place reply) = IsMadeIn s root l client number place reply
IsDoneIn s root l client number _ = Unit {0}

-- What the client table of a replica says of a request: the client's latest record is that request, which stands at a
-- place, or waits at the normal primary of its view; or it is a later request; or no record of it is known, or one that
-- need not stay.
abbrev pub IsByTable : ℕ → ℕ → State OpValue → Client → ℕ → OutcomeValue → Type 0
IsByTable n i r client number (done place reply) =
    (last : Latest) × (latest client r.log ≡ Some last) × (last.request_number ≡ number) × (last.op_number ≡ place)
IsByTable n i r client number pending =
    (last : Latest) × (latest client r.log ≡ Some last) × (last.request_number ≡ number)
    × (leads n i r r.view_number ≡ true)
IsByTable n i r client number stale = (last : Latest) × (latest client r.log ≡ Some last)
    × (number < last.request_number)
IsByTable n i r client number lost = (latest client r.log ≡ None)
    ⊎ ((last : Latest) × (latest client r.log ≡ Some last)
    × ((last.request_number < number) ⊎ ((last.request_number ≡ number) × (leads n i r r.view_number ≡ false))))

-- What a node says of a request is by the replica of the world.
pub record IsByReplica (n i : ℕ) (w : World OpValue) (client : Client) (number : ℕ) (v : OutcomeValue) : Type 0 where
  pub replica : State OpValue
  pub there : w.replicas i ≡ Some replica
  pub by : IsByTable n i replica client number v

-- A read found this after the first updates of those that are committed, as many as are said: no fewer than it named.
pub record IsReadIn {A : Type 0} (s : SchemaModel) (root : List RdnModel) (l : List (LogEntry OpValue))
    (named number : ℕ) (read : Directory → A) (found : A) : Type 0 where
  pub enough : named ≤ number
  pub within : number ≤ length l
  pub is : found ≡ read (directory_of s root (ops_of (take number l)))

-- A read came too early: fewer updates than it named were executed, all of them committed.
pub record IsTooEarly (l : List (LogEntry OpValue)) (named number : ℕ) : Type 0 where
  pub fewer : number < named
  pub within : number ≤ length l

-- What a node says of itself is the replica of the world.
pub record IsReplica (n i : ℕ) (w : World OpValue) (x : MachineReply) : Type 0 where
  pub replica : State OpValue
  pub there : w.replicas i ≡ Some replica
  pub shown : x ≡ reply.Standing i replica.view_number (standing_by i (primary n replica.view_number) replica.status)
      (length replica.log) replica.commit_number

-- What may happen in the world at an event that gets this reply.
abbrev pub MayHappen : SchemaModel → List RdnModel → ℕ → ℕ → Bool → List MachineReply → MachineEvent → MachineReply →
    List (WorldEvent OpValue) → World OpValue → Type 0
MayHappen s root cluster n journaled before (event.Give i g) reply.Nothing h w = (h ≡ [])
    × (IsAway n before i ⊎ IsMissing before i g)
MayHappen s root cluster n journaled before (event.Give i g) (reply.Handled j outs behind) h w = (j ≡ i)
    × TakesEach n before i (g ∷ []) outs.items h w
MayHappen s root cluster n journaled before (event.Give i g) (reply.Refused j e) h w = (j ≡ i) × (e ≡ NoMemory)
    × (h ≡ [])
MayHappen s root cluster n journaled before (event.Give i g) (reply.Stopped j e) h w = (j ≡ i) × (e ≢ NoMemory)
    × EndsInside n before i (g ∷ []) h w
MayHappen s root cluster n journaled before (event.GiveAll i gs) reply.Nothing h w = (h ≡ [])
    × (IsAway n before i ⊎ IsOneMissing before i gs.items)
MayHappen s root cluster n journaled before (event.GiveAll i gs) (reply.Handled j outs behind) h w = (j ≡ i)
    × TakesEach n before i gs.items outs.items h w
MayHappen s root cluster n journaled before (event.GiveAll i gs) (reply.Refused j e) h w = (j ≡ i) × (e ≡ NoMemory)
    × (h ≡ [])
MayHappen s root cluster n journaled before (event.GiveAll i gs) (reply.Stopped j e) h w = (j ≡ i) × (e ≢ NoMemory)
    × EndsInside n before i gs.items h w
MayHappen s root cluster n journaled before (event.Write place sizes) x h w = (h ≡ [])
    × IsWritten cluster before place sizes x
MayHappen s root cluster n journaled before (event.Crash i fates) reply.Nothing h w = (h ≡ []) × IsAway n before i
MayHappen s root cluster n journaled before (event.Crash i fates) (reply.Crashed j) h w = (j ≡ i) × (h ≡ Crash i ∷ [])
MayHappen s root cluster n journaled before (event.Start i faults fates) reply.Nothing h w = (h ≡ [])
    × IsNotToStart n before i
MayHappen s root cluster n journaled before (event.Start i faults fates) (reply.Started j restarts out) h w = (j ≡ i)
    × (StartsFirst before i restarts out h ⊎ StartsAgain n journaled before i restarts out h w
    ⊎ GoesOnOver n journaled before i out h w)
MayHappen s root cluster n journaled before (event.Start i faults fates) (reply.Refused j e) h w = (j ≡ i) × (h ≡ [])
MayHappen s root cluster n journaled before (event.Start i faults fates) (reply.Stopped j e) h w = (j ≡ i) × (h ≡ [])
MayHappen s root cluster n journaled before (event.Ask i client number) reply.Nothing h w = (h ≡ []) × IsAway n before i
MayHappen s root cluster n journaled before (event.Ask i client number) (reply.Outcome j o) h w = (j ≡ i) × (h ≡ [])
    × IsByReplica n i w client number (became_view o) × IsDoneIn s root (committed n w.messages) client number
    (became_view o)
MayHappen s root cluster n journaled before (event.Search i named q) reply.Nothing h w = (h ≡ []) × IsAway n before i
MayHappen s root cluster n journaled before (event.Search i named q) (reply.Found j number a) h w =
    (j ≡ i) × (h ≡ []) × IsReadIn s root (committed n w.messages) named number (λ d. answer d (search_view q))
    (answer_view a)
MayHappen s root cluster n journaled before (event.Search i named q) (reply.NotYet j number) h w = (j ≡ i) × (h ≡ [])
    × IsTooEarly (committed n w.messages) named number
MayHappen s root cluster n journaled before (event.Search i named q) (reply.Refused j e) h w = (j ≡ i) × (e ≡ NoMemory)
    × (h ≡ [])
MayHappen s root cluster n journaled before (event.Compare i named q) reply.Nothing h w = (h ≡ []) × IsAway n before i
MayHappen s root cluster n journaled before (event.Compare i named q) (reply.Compared j number r) h w =
    (j ≡ i) × (h ≡ []) × IsReadIn s root (committed n w.messages) named number (λ d. compared d (compare_view q))
    (reply_view r)
MayHappen s root cluster n journaled before (event.Compare i named q) (reply.NotYet j number) h w = (j ≡ i) × (h ≡ [])
    × IsTooEarly (committed n w.messages) named number
MayHappen s root cluster n journaled before (event.Compare i named q) (reply.Refused j e) h w = (j ≡ i) × (e ≡ NoMemory)
    × (h ≡ [])
MayHappen s root cluster n journaled before (event.State i) reply.Nothing h w = (h ≡ []) × IsAway n before i
MayHappen s root cluster n journaled before (event.State i) (reply.Standing j v st p k) h w = (h ≡ [])
    × IsReplica n i w (reply.Standing j v st p k)
MayHappen s root cluster n journaled before _ _ h w = ⊥

-- What happens in the world at the events of a schedule, one after another: of each event one reply, and a list of
-- world events that may happen at it.
abbrev pub HappenInTurn : SchemaModel → List RdnModel → ℕ → ℕ → Bool → (before : List MachineReply) →
    List MachineEvent →
    List MachineReply → List (List (WorldEvent OpValue)) → World OpValue → Type 0
HappenInTurn s root cluster n journaled before [] [] [] w = Unit {0}
HappenInTurn s root cluster n journaled before (e ∷ es) (x ∷ xs) (h ∷ hs) w = MayHappen s root cluster n journaled
    before e x h w
    × HappenInTurn s root cluster n journaled (before ++ x ∷ []) es xs hs (run n h w)
HappenInTurn s root cluster n journaled before _ _ _ w = ⊥
