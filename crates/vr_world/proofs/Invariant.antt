-- What holds of each world: n replicas, stored views, the messages ms. It is explained in docs/REPLICATION.md, section
-- 4. Nothing is proved here.
use Rattle.std.proofs.Common.{◌≡◌, ℕ, suc, ◌/◌, ◌<◌, ◌≤◌, ◌≢◌, ◌==◌, Bool, true, ◌⊎◌, List, [], ◌∷◌, length, drop, Option, Some, None, slice_index}
use Rattle.std.specs.List.{list_any}
use Rattle.vr_state.specs.Lists.{IsPrefix, In, Rising, EntryAt}
use Rattle.vr_state.specs.Outcome.{indices, count, noted}
use Rattle.vr_state.specs.State.{State, primary, resuming}
use Rattle.vr_state.specs.declared.message.Change.{Change}
use Rattle.vr_state.specs.declared.message.PeerMessage.{PeerMessage}
use Rattle.vr_state.specs.declared.message.Response.{Response}
use Rattle.vr_state.specs.declared.message.Snapshot.{Snapshot}
use Rattle.vr_state.specs.Words.{LogEntry}
use Rattle.vr_state.specs.declared.words.Status.{Status}
use Rattle.vr_world.proofs.Listed.{listed}
use Rattle.vr_world.specs.Committed.{start_log, has_said, is_chosen}
use Rattle.vr_world.specs.World.{World, Message}
use Rattle.vr_state.specs.declared.message.PeerMessage.TheVariants.{Prepare, PrepareOk, Commit, StartViewChange, DoViewChange, StartView, GetState, NewState, Recovery, RecoveryResponse}
use Rattle.vr_state.specs.declared.words.Status.TheVariants.{Normal, ViewChange, Recovering}

-- what the invariant is told from outside: the nonces that were used, and lists that stay
pub record Given (P : Type 0) : Type 0 where
  pub used : ℕ → List ℕ
  pub past : ℕ → List (LogEntry P)

-- m is one of these messages
abbrev pub Sent : {P : Type 0} → Message P → List (Message P) → Type 0
Sent m [] = ⊥
Sent m (x ∷ ms) = (m ≡ x) ⊎ Sent m ms

-- the message is a STARTVIEW of v
abbrev pub Starts : {P : Type 0} → ℕ → PeerMessage P → Type 0
Starts v (StartView u held) = u ≡ v
Starts v _ = ⊥

-- view 0, or a STARTVIEW of the view was sent
abbrev pub Started : {P : Type 0} → ℕ → List (Message P) → Type 0
Started v [] = v ≡ 0
Started v (m ∷ ms) = Starts v m.body ⊎ Started v ms

-- a log of view v: a beginning of its list that has its STARTVIEW's log
pub record IsLogOf {P : Type 0} (ms : List (Message P)) (v : ℕ) (l : List (LogEntry P)) : Type 0 where
  pub started : Started v ms
  pub within : IsPrefix l (listed v ms)
  pub whole : length (start_log v ms) ≤ length l

-- the end of a log of view v, without its first x records
pub record IsTailOf {P : Type 0} (ms : List (Message P)) (v x : ℕ) (tail : List (LogEntry P)) : Type 0 where
  pub log : List (LogEntry P)
  pub is_log : IsLogOf ms v log
  pub short : x ≤ length log
  pub is : tail ≡ drop x log

-- r has said that it has q records of v, or leads v and the list has as many
abbrev pub Owes : {P : Type 0} → ℕ → List (Message P) → ℕ → ℕ → ℕ → Type 0
Owes n ms r v q = (has_said v q r ms ≡ true) ⊎ ((primary n v ≡ r) × Started v ms × (q ≤ length (listed v ms)))

-- (v, q) is in a log of this length of view last
abbrev pub Below : ℕ → ℕ → ℕ → ℕ → Type 0
Below v q last_normal_view len = (v < last_normal_view) ⊎ ((v ≡ last_normal_view) × (q ≤ len))

-- what r owes in views below this one is in a log of this length of view last
pub record Covers {P : Type 0} (n : ℕ) (ms : List (Message P)) (r bound last_normal_view len : ℕ) : Type 0 where
  pub each : (v q : ℕ) → v < bound → Owes n ms r v q → Below v q last_normal_view len

-- x records are chosen in this view, which is at most v
pub record ChosenBy {P : Type 0} (n : ℕ) (ms : List (Message P)) (v x : ℕ) : Type 0 where
  pub view_number : ℕ
  pub low : view_number ≤ v
  pub chosen : is_chosen n view_number x ms ≡ true

-- x records are chosen in a view at most v
abbrev pub IsCommitted : {P : Type 0} → ℕ → List (Message P) → ℕ → ℕ → Type 0
IsCommitted n ms v x = (x ≡ 0) ⊎ ChosenBy n ms v x

-- what j promises by a DOVIEWCHANGE of v
pub record ChangeFact {P : Type 0} (n : ℕ) (stored : ℕ → ℕ) (ms : List (Message P)) (v j : ℕ) (c : Change P) :
    Type 0 where
  pub log : IsLogOf ms c.last_normal_view c.log
  pub commit_number : IsCommitted n ms c.last_normal_view c.commit_number
  pub before : c.last_normal_view < v
  pub low : v ≤ stored j
  pub covers : Covers n ms j v c.last_normal_view (length c.log)

-- why v may begin with this log
pub record Justified {P : Type 0} (n : ℕ) (stored : ℕ → ℕ) (ms : List (Message P)) (v : ℕ) (l : List (LogEntry P)) :
    Type 0 where
  pub view_number : ℕ
  pub before : view_number < v
  pub log : IsLogOf ms view_number l
  pub quorum : ℕ → Bool
  pub most : n / 2 < count quorum (indices n)
  pub low : (j : ℕ) → In j (indices n) → quorum j ≡ true → v ≤ stored j
  pub covers : (j : ℕ) → In j (indices n) → quorum j ≡ true → Covers n ms j v view_number (length l)

-- a log that is held is one of v, and its commit-number is right
abbrev pub HeldFact : {P : Type 0} → ℕ → List (Message P) → ℕ → Option (Snapshot P) → Type 0
HeldFact n ms v None = Unit {0}
HeldFact n ms v (Some held) = IsLogOf ms v held.log × IsCommitted n ms v held.commit_number

-- the log, if there is one, has what i said that it has
abbrev pub HeldAll : {P : Type 0} → List (Message P) → ℕ → ℕ → Option (Snapshot P) → Type 0
HeldAll ms i v None = Unit {0}
HeldAll ms i v (Some held) = (q : ℕ) → has_said v q i ms ≡ true → q ≤ length held.log

-- what a PREPARE shows
pub record PrepareFact {P : Type 0} (n : ℕ) (ms : List (Message P)) (v : ℕ) (e : LogEntry P) (p x : ℕ) : Type 0 where
  pub started : Started v ms
  pub entry : EntryAt e p (listed v ms)
  pub commit_number : IsCommitted n ms v x

-- what a PREPAREOK of j shows
pub record PrepareOkFact {P : Type 0} (stored : ℕ → ℕ) (ms : List (Message P)) (j v q : ℕ) : Type 0 where
  pub low : v ≤ stored j
  pub started : Started v ms
  pub within : q ≤ length (listed v ms)

-- what a STARTVIEW of j shows
pub record StartViewFact {P : Type 0} (n : ℕ) (stored : ℕ → ℕ) (ms : List (Message P)) (j v : ℕ) (held : Snapshot P) :
    Type 0 where
  pub low : v ≤ stored j
  pub leads : primary n v ≡ j
  pub started : Started v ms
  pub log : held.log ≡ start_log v ms
  pub commit_number : IsCommitted n ms v held.commit_number

-- x is one of these nonces
abbrev pub IsUsed : ℕ → List ℕ → Type 0
IsUsed x xs = list_any (λ y. y == x) xs ≡ true

-- what each message shows, by its kind
abbrev pub BodyFact : {P : Type 0} → ℕ → (ℕ → ℕ) → Given P → List (Message P) → ℕ → ℕ → PeerMessage P → Type 0
BodyFact n stored given ms from to (Prepare v e p x) = PrepareFact n ms v e p x
BodyFact n stored given ms from to (PrepareOk v q) = PrepareOkFact stored ms from v q
BodyFact n stored given ms from to (Commit v x) = IsCommitted n ms v x
BodyFact n stored given ms from to (StartViewChange v) = Unit {0}
BodyFact n stored given ms from to (DoViewChange v c) = ChangeFact n stored ms v from c
BodyFact n stored given ms from to (StartView v held) = StartViewFact n stored ms from v held
BodyFact n stored given ms from to (GetState v x) = Unit {0}
BodyFact n stored given ms from to (NewState v x tail) = IsTailOf ms v x tail.log
    × IsCommitted n ms v tail.commit_number
BodyFact n stored given ms from to (Recovery x) = IsUsed x (given.used from)
BodyFact n stored given ms from to (RecoveryResponse x a) = IsUsed x (given.used to) × HeldFact n ms a.view_number
    a.held

-- what a message shows
abbrev pub MessageFact : {P : Type 0} → ℕ → (ℕ → ℕ) → Given P → List (Message P) → Message P → Type 0
MessageFact n stored given ms m = BodyFact n stored given ms m.from m.to m.body

-- a replica that isn't recovering
pub record ActiveFact {P : Type 0} (n : ℕ) (ms : List (Message P)) (i view_number last_normal_view : ℕ)
    (log : List (LogEntry P)) (commit_number : ℕ) : Type 0 where
  pub is_log : IsLogOf ms last_normal_view log
  pub is_com : IsCommitted n ms last_normal_view commit_number
  pub within : commit_number ≤ length log
  pub covers : Covers n ms i (suc view_number) last_normal_view (length log)

-- a normal replica
pub record NormalFact {P : Type 0} (n : ℕ) (ms : List (Message P)) (i view_number last_normal_view : ℕ)
    (log : List (LogEntry P)) (commit_number : ℕ) (acknowledged : List ℕ) : Type 0 where
  pub active : ActiveFact n ms i view_number last_normal_view log commit_number
  pub is_last : last_normal_view ≡ view_number
  pub acks : (j : ℕ) → (slice_index acknowledged j ≡ 0) ⊎ (has_said view_number (slice_index acknowledged j) j ms ≡
      true)

-- a replica that changes
pub record ChangingFact {P : Type 0} (n : ℕ) (stored : ℕ → ℕ) (ms : List (Message P))
    (i view_number last_normal_view : ℕ) (log : List (LogEntry P)) (commit_number : ℕ) (do_view_changes :
    List (ℕ × Change P)) : Type 0 where
  pub active : ActiveFact n ms i view_number last_normal_view log commit_number
  pub before : last_normal_view < view_number
  pub unstarted : primary n view_number ≡ i → Started view_number ms → ⊥
  pub each : (j : ℕ) (c : Change P) → noted j do_view_changes ≡ Some c → ChangeFact n stored ms view_number j c

-- what an answer to i of nonce x holds
abbrev pub AnswersAll : {P : Type 0} → List (Message P) → ℕ → ℕ → PeerMessage P → Type 0
AnswersAll ms i x (RecoveryResponse y a) = x ≡ y → HeldAll ms i a.view_number a.held
AnswersAll ms i x _ = Unit {0}

-- a recovering replica
pub record RecoveringFact {P : Type 0} (n : ℕ) (given : Given P) (ms : List (Message P)) (i commit_number nonce : ℕ)
    (responses : List (ℕ × Response P)) : Type 0 where
  pub used : IsUsed nonce (given.used i)
  pub nothing : commit_number ≡ 0
  pub others : (j : ℕ) (a : Response P) → noted j responses ≡ Some a → j ≢ i
  pub held : (j : ℕ) (a : Response P) → noted j responses ≡ Some a → HeldFact n ms a.view_number a.held
  pub has_all : (j : ℕ) (a : Response P) → noted j responses ≡ Some a → HeldAll ms i a.view_number a.held
  pub sent : (m : Message P) → Sent m ms → m.to ≡ i → AnswersAll ms i nonce m.body

-- a replica by its status
abbrev pub StateFact : {P : Type 0} → ℕ → (ℕ → ℕ) → Given P → List (Message P) → ℕ → State P → Status → Type 0
StateFact n stored given ms i r Normal = NormalFact n ms i r.view_number r.last_normal_view r.log r.commit_number
    r.acknowledged
StateFact n stored given ms i r ViewChange = ChangingFact n stored ms i r.view_number r.last_normal_view r.log
    r.commit_number r.do_view_changes
StateFact n stored given ms i r Recovering = RecoveringFact n given ms i r.commit_number r.nonce r.responses

-- a replica that is up: its view is the stored one
pub record UpFact {P : Type 0} (n : ℕ) (stored : ℕ → ℕ) (given : Given P) (ms : List (Message P)) (i : ℕ)
    (r : State P) : Type 0 where
  pub view_number : r.view_number ≡ stored i
  pub state : StateFact n stored given ms i r r.status

-- a replica, up or down
abbrev pub ReplicaFact : {P : Type 0} → ℕ → (ℕ → ℕ) → Given P → List (Message P) → ℕ → Option (State P) → Type 0
ReplicaFact n stored given ms i None = Unit {0}
ReplicaFact n stored given ms i (Some r) = UpFact n stored given ms i r

-- what the messages alone show
pub record Sound {P : Type 0} (n : ℕ) (stored : ℕ → ℕ) (given : Given P) (ms : List (Message P)) : Type 0 where
  pub messages : (m : Message P) → Sent m ms → MessageFact n stored given ms m
  pub starts : (v : ℕ) → Started v ms → 0 < v → Justified n stored ms v (start_log v ms)
  pub lists : (v : ℕ) → Started v ms ⊎ (listed v ms ≡ [])
  pub kept : (v : ℕ) → IsPrefix (given.past v) (listed v ms)
  pub rising : (v : ℕ) → Rising (listed v ms)

-- what holds of each world
pub record Invariant {P : Type 0} (n : ℕ) (replicas : ℕ → Option (State P)) (stored : ℕ → ℕ) (given : Given P)
    (ms : List (Message P)) : Type 0 where
  pub sound : Sound n stored given ms
  pub each : (i : ℕ) → ReplicaFact n stored given ms i (replicas i)

-- an answer holds all that the asker has said that it has
abbrev pub HoldsAll : {P : Type 0} → List (Message P) → ℕ → PeerMessage P → Type 0
HoldsAll ms to (RecoveryResponse x a) = HeldAll ms to a.view_number a.held
HoldsAll ms to _ = Unit {0}

-- what a new message shows
pub record NewFact {P : Type 0} (n : ℕ) (stored : ℕ → ℕ) (given : Given P) (ms : List (Message P)) (m : Message P) :
    Type 0 where
  pub fact : MessageFact n stored given ms m
  pub holds : HoldsAll ms m.to m.body

-- how the messages go on
pub record Grows {P : Type 0} (n : ℕ) (stored : ℕ → ℕ) (given : Given P) (ms : List (Message P)) (stored' : ℕ → ℕ)
    (given' : Given P) (ms' : List (Message P)) : Type 0 where
  pub views : (j : ℕ) → stored j ≤ stored' j
  pub uses : (j x : ℕ) → IsUsed x (given.used j) → IsUsed x (given'.used j)
  pub lists : (v : ℕ) → IsPrefix (listed v ms) (listed v ms')
  pub started : (v : ℕ) → Started v ms → Started v ms'
  pub bases : (v : ℕ) → Started v ms → start_log v ms' ≡ start_log v ms
  pub said : (v p j : ℕ) → has_said v p j ms ≡ true → has_said v p j ms' ≡ true
  pub debts : (j v q : ℕ) → v < stored j → Owes n ms' j v q → Owes n ms j v q

-- what the new messages are
pub record Adds {P : Type 0} (n : ℕ) (ms : List (Message P)) (stored' : ℕ → ℕ) (given' : Given P)
    (ms' : List (Message P)) : Type 0 where
  pub news : (m : Message P) → Sent m ms' → Sent m ms ⊎ NewFact n stored' given' ms' m
  pub begun : (v : ℕ) → Started v ms' → Started v ms ⊎ Justified n stored' ms' v (start_log v ms')
  pub rest : (v : ℕ) → Started v ms' ⊎ (listed v ms' ≡ listed v ms)

-- j owes no more
pub record Still {P : Type 0} (n : ℕ) (ms ms' : List (Message P)) (j : ℕ) : Type 0 where
  pub debts : (v q : ℕ) → Owes n ms' j v q → Owes n ms j v q
  pub said : (v q : ℕ) → has_said v q j ms' ≡ true → has_said v q j ms ≡ true
  pub begins : (v : ℕ) → primary n v ≡ j → Started v ms' → Started v ms

-- a replica as it is, or as it would go on from what is kept of it
abbrev pub or_kept : {P : Type 0} → ℕ → ℕ → Option (State P) → Option (Change P) → Option (State P)
or_kept n v (Some r) c = Some r
or_kept n v None None = None
or_kept n v None (Some c) = Some (resuming n v c.commit_number c)

-- each replica of a world, up or down
abbrev pub all_of : {P : Type 0} → ℕ → World P → ℕ → Option (State P)
all_of n w i = or_kept n (w.stored i) (w.replicas i) (w.kept i)

-- the invariant of a world, beside lists that stay: of a replica that is down it says what holds once it goes on
abbrev pub Holds : {P : Type 0} → ℕ → (ℕ → List (LogEntry P)) → World P → Type 0
Holds n past w = Invariant n (all_of n w) w.stored (record { used = w.nonces; past = past }) w.messages
