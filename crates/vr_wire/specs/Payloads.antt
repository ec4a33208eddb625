-- Payloads as updates.
use Rattle.std.specs.Prelude.{◌≡◌, ◌≢◌, ◌≤◌, ℕ, List, [], ◌∷◌, length, map, Option, Some, None, Result, Ok, Err}
use Rattle.ldap_op.specs.Values.{OpValue}
use Rattle.ldap_op.specs.Grammar.{IsOp}
use Rattle.ldap_op.specs.Written.{op_bytes}
use Rattle.view_store.specs.Cluster.{IsCluster}
use Rattle.vr_state.specs.Words.{LogEntry}
use Rattle.vr_state.specs.declared.message.PeerMessage.{PeerMessage}
use Rattle.vr_state.specs.declared.message.PeerMessage.TheVariants.{Prepare, PrepareOk, Commit, StartViewChange, DoViewChange, StartView, GetState}
use Rattle.vr_state.specs.declared.message.PeerMessage.TheVariants.{NewState, Recovery, RecoveryResponse}
use Rattle.vr_state.specs.declared.message.Snapshot.{Snapshot}
use Rattle.vr_state.specs.declared.message.Change.{Change}
use Rattle.vr_state.specs.declared.message.Response.{Response}
use Rattle.vr_wire.specs.declared.error.WireError.{WireError}
use Rattle.vr_wire.specs.declared.error.WireError.TheVariants as error
use Rattle.vr_wire.specs.Frames.{frame_octets, limit, IsInRange}

-- why nothing is read: nothing stands for it, or memory ran out; whose cluster it is isn't asked
abbrev pub Refuses : {A B : Type 0} → (A → B → Type 0) → WireError → B → Type 0
Refuses {A} Is error.BadFrame b = (a : A) → Is a b → ⊥
Refuses Is error.ForeignFrame b = ⊥
Refuses Is error.NoMemory b = Unit {0}

-- the record's payload is the one that the octets spell, and all else is the same
pub record IsEntryOf (e : LogEntry OpValue) (raw : LogEntry (List ℕ)) : Type 0 where
  pub client : e.client ≡ raw.client
  pub request_number : e.request_number ≡ raw.request_number
  pub payload : IsOp e.payload raw.payload

-- one record for each, in their order
abbrev pub AreEntriesOf : List (LogEntry OpValue) → List (LogEntry (List ℕ)) → Type 0
AreEntriesOf [] [] = Unit {0}
AreEntriesOf (e ∷ es) (raw ∷ raws) = IsEntryOf e raw × AreEntriesOf es raws
AreEntriesOf _ _ = ⊥

-- the log is the one that is spelled, and as much of it is committed
pub record IsHeldOf (held : Snapshot OpValue) (raw : Snapshot (List ℕ)) : Type 0 where
  pub log : AreEntriesOf held.log raw.log
  pub commit_number : held.commit_number ≡ raw.commit_number

-- the log is the one that is spelled, and the numbers are the same
pub record IsChangeOf (c : Change OpValue) (raw : Change (List ℕ)) : Type 0 where
  pub log : AreEntriesOf c.log raw.log
  pub last_normal_view : c.last_normal_view ≡ raw.last_normal_view
  pub commit_number : c.commit_number ≡ raw.commit_number

-- a log where one is spelled, else none
abbrev pub IsPerhapsOf : Option (Snapshot OpValue) → Option (Snapshot (List ℕ)) → Type 0
IsPerhapsOf None None = Unit {0}
IsPerhapsOf (Some held) (Some raw) = IsHeldOf held raw
IsPerhapsOf _ _ = ⊥

-- the view is the same, and the log is the one that is spelled, or missing too
pub record IsResponseOf (a : Response OpValue) (raw : Response (List ℕ)) : Type 0 where
  pub view_number : a.view_number ≡ raw.view_number
  pub held : IsPerhapsOf a.held raw.held

-- the messages are the same but that the one has updates where the other has octets that spell them
abbrev pub IsMessageOf : PeerMessage OpValue → PeerMessage (List ℕ) → Type 0
IsMessageOf (Prepare v e p k) (Prepare w f q l) = (v ≡ w) × IsEntryOf e f × (p ≡ q) × (k ≡ l)
IsMessageOf (PrepareOk v p) (PrepareOk w q) = (v ≡ w) × (p ≡ q)
IsMessageOf (Commit v k) (Commit w l) = (v ≡ w) × (k ≡ l)
IsMessageOf (StartViewChange v) (StartViewChange w) = v ≡ w
IsMessageOf (DoViewChange v c) (DoViewChange w d) = (v ≡ w) × IsChangeOf c d
IsMessageOf (StartView v h) (StartView w g) = (v ≡ w) × IsHeldOf h g
IsMessageOf (Recovery x) (Recovery y) = x ≡ y
IsMessageOf (RecoveryResponse x a) (RecoveryResponse y b) = (x ≡ y) × IsResponseOf a b
IsMessageOf (GetState v k) (GetState w l) = (v ≡ w) × (k ≡ l)
IsMessageOf (NewState v x h) (NewState w y g) = (v ≡ w) × (x ≡ y) × IsHeldOf h g
IsMessageOf _ _ = ⊥

-- the octets are a frame of this cluster, this sender and this message
pub record IsFrame (cluster sender : ℕ) (m : PeerMessage OpValue) (octets : List ℕ) : Type 0 where
  pub raw : PeerMessage (List ℕ)
  pub spelled : octets ≡ frame_octets cluster sender raw
  pub cluster_is : IsCluster cluster
  pub range : IsInRange raw
  pub payloads : IsMessageOf m raw
  pub small : length octets ≤ limit

-- the octets are a frame of another cluster than this one
pub record IsForeign (cluster : ℕ) (octets : List ℕ) : Type 0 where
  pub other : ℕ
  pub sender : ℕ
  pub message : PeerMessage OpValue
  pub frame : IsFrame other sender message octets
  pub differs : other ≢ cluster

-- why nothing is read for a cluster: the octets are no frame of any cluster, or a frame of another one; or memory ran
-- out
abbrev pub RefusesFrame : ℕ → WireError → List ℕ → Type 0
RefusesFrame cluster error.BadFrame octets = (other sender : ℕ) (m : PeerMessage OpValue) →
    IsFrame other sender m octets → ⊥
RefusesFrame cluster error.ForeignFrame octets = IsForeign cluster octets
RefusesFrame cluster error.NoMemory octets = Unit {0}

-- what is read for a cluster is the sender and the message of the octets, a frame of it, or nothing is read
abbrev pub ReadsFrame : ℕ → Result (ℕ × PeerMessage OpValue) WireError → List ℕ → Type 0
ReadsFrame cluster (Ok p) octets = IsFrame cluster p.0 p.1 octets
ReadsFrame cluster (Err e) octets = RefusesFrame cluster e octets

-- payloads as they are written
abbrev pub written_entry : LogEntry OpValue → LogEntry (List ℕ)
written_entry e = record { client = e.client; request_number = e.request_number; payload = op_bytes e.payload }

-- records whose updates are written
abbrev pub written_log : List (LogEntry OpValue) → List (LogEntry (List ℕ))
written_log es = map written_entry es

-- a log and its commit number, its updates written
abbrev pub written_held : Snapshot OpValue → Snapshot (List ℕ)
written_held held = record { log = written_log held.log; commit_number = held.commit_number }

-- the same, where there is one
abbrev pub written_perhaps : Option (Snapshot OpValue) → Option (Snapshot (List ℕ))
written_perhaps None = None
written_perhaps (Some held) = Some (written_held held)

-- a message whose updates are written
abbrev pub written : PeerMessage OpValue → PeerMessage (List ℕ)
written (Prepare v e p k) = Prepare v (written_entry e) p k
written (PrepareOk v p) = PrepareOk v p
written (Commit v k) = Commit v k
written (StartViewChange v) = StartViewChange v
written (DoViewChange v c) = DoViewChange v (record {
  log = written_log c.log;
  last_normal_view = c.last_normal_view;
  commit_number = c.commit_number;
})
written (StartView v held) = StartView v (written_held held)
written (Recovery x) = Recovery x
written (RecoveryResponse x a) = RecoveryResponse x (record {
  view_number = a.view_number;
  held = written_perhaps
      a.held;
})
written (GetState v k) = GetState v k
written (NewState v x tail) = NewState v x (written_held tail)
