-- What holds of all of them.
use Rattle.std.specs.Prelude.{◌≡◌, ◌≤◌, ℕ, List, [], ◌∷◌, ◌++◌, length, Option, Some, None}
use Rattle.ldap_op.specs.Values.{OpValue}
use Rattle.ldap_op.specs.Written.{IsOpInRange}
use Rattle.view_store.specs.Cluster.{IsCluster}
use Rattle.vr_state.specs.Words.{LogEntry}
use Rattle.vr_state.specs.declared.message.PeerMessage.{PeerMessage}
use Rattle.vr_state.specs.declared.message.PeerMessage.TheVariants.{Prepare, PrepareOk, Commit, StartViewChange, DoViewChange, StartView, GetState}
use Rattle.vr_state.specs.declared.message.PeerMessage.TheVariants.{NewState, Recovery, RecoveryResponse}
use Rattle.vr_state.specs.declared.message.Snapshot.{Snapshot}
use Rattle.vr_wire.specs.declared.error.WireError.{WireError}
use Rattle.vr_wire.specs.declared.error.WireError.TheVariants as error
use Rattle.vr_wire.specs.Frames.{frame_octets, limit, IsInRange}
use Rattle.vr_wire.specs.Payloads.{IsFrame, written}

-- octets are a frame of one cluster, one sender and one message at most
abbrev pub FramesHaveOneMessage : Type 0
FramesHaveOneMessage =
    (octets : List ℕ) (cluster sender : ℕ) (m : PeerMessage OpValue) (other speaker : ℕ) (n : PeerMessage OpValue)
    → IsFrame cluster sender m octets → IsFrame other speaker n octets → (cluster ≡ other) × (sender ≡ speaker)
    × (m ≡ n)

-- a frame that begins with a whole frame is that frame
abbrev pub NoFrameBeginsAnother : Type 0
NoFrameBeginsAnother =
    (octets more : List ℕ) (cluster sender : ℕ) (m : PeerMessage OpValue) (other speaker : ℕ) (n : PeerMessage OpValue)
    → IsFrame cluster sender m octets → IsFrame other speaker n (octets ++ more) → more ≡ []

-- the records of a log that may be missing
abbrev pub perhaps_records : Option (Snapshot OpValue) → List (LogEntry OpValue)
perhaps_records None = []
perhaps_records (Some held) = held.log

-- the records that a message carries
abbrev pub records_of : PeerMessage OpValue → List (LogEntry OpValue)
records_of (Prepare v e p k) = e ∷ []
records_of (PrepareOk v p) = []
records_of (Commit v k) = []
records_of (StartViewChange v) = []
records_of (DoViewChange v c) = c.log
records_of (StartView v held) = held.log
records_of (Recovery x) = []
records_of (RecoveryResponse x a) = perhaps_records a.held
records_of (GetState v k) = []
records_of (NewState v x tail) = tail.log

-- the updates of all records are in range
abbrev pub AreUpdatesInRange : List (LogEntry OpValue) → Type 0
AreUpdatesInRange [] = Unit {0}
AreUpdatesInRange (e ∷ es) = IsOpInRange e.payload × AreUpdatesInRange es

-- a message of this sender has a frame in this cluster: what it says is in range, and the frame is within the limit
pub record HasFrame (cluster sender : ℕ) (m : PeerMessage OpValue) : Type 0 where
  pub cluster_is : IsCluster cluster
  pub range : IsInRange (written m)
  pub updates : AreUpdatesInRange (records_of m)
  pub small : length (frame_octets cluster sender (written m)) ≤ limit

-- what is written for a message that has a frame is a frame of it
abbrev pub WrittenIsFrame : Type 0
WrittenIsFrame =
    (cluster sender : ℕ) (m : PeerMessage OpValue)
    → HasFrame cluster sender m → IsFrame cluster sender m (frame_octets cluster sender (written m))

-- the message has no frame: what it says isn't in range, or the frame would be over the limit; or memory ran out
abbrev pub HasNoFrame : WireError → ℕ → ℕ → PeerMessage OpValue → Type 0
HasNoFrame error.BadFrame cluster sender m = HasFrame cluster sender m → ⊥
HasNoFrame error.ForeignFrame cluster sender m = ⊥
HasNoFrame error.NoMemory cluster sender m = Unit {0}
