-- The octets of what replicas say to one another, version 2.
use Rattle.std.specs.Prelude.{◌≡◌, ◌<◌, ◌^◌, ℕ, List, [], ◌∷◌, ◌++◌, length, Option, Some, None}
use Rattle.std.specs.Int.{w32, w64, to_be_bytes}
use Rattle.view_store.specs.Cluster.{cluster_octets}
use Rattle.vr_state.specs.Words.{Client}
use Rattle.vr_state.specs.Words.{LogEntry}
use Rattle.vr_state.specs.declared.message.PeerMessage.{PeerMessage}
use Rattle.vr_state.specs.declared.message.PeerMessage.TheVariants.{Prepare, PrepareOk, Commit, StartViewChange, DoViewChange, StartView, GetState}
use Rattle.vr_state.specs.declared.message.PeerMessage.TheVariants.{NewState, Recovery, RecoveryResponse}
use Rattle.vr_state.specs.declared.message.Snapshot.{Snapshot}

-- the greatest length of a frame, its first four octets included
abbrev pub limit : ℕ
limit = 268435456

-- a number in eight octets, the most significant first
abbrev pub number : ℕ → List ℕ
number n = to_be_bytes w64 n

-- a count or a length in four octets, the most significant first
abbrev pub short : ℕ → List ℕ
short n = to_be_bytes w32 n

-- a client: its home, its life, its number
abbrev pub client_octets : Client → List ℕ
client_octets c = c.home ∷ number c.life ++ number c.number

-- a payload: its length, its octets
abbrev pub payload_octets : List ℕ → List ℕ
payload_octets p = short (length p) ++ p

-- a record: its client, the client's number for the request, its payload
abbrev pub entry_octets : LogEntry (List ℕ) → List ℕ
entry_octets e = client_octets e.client ++ number e.request_number ++ payload_octets e.payload

-- records, one after the other
abbrev pub entries_octets : List (LogEntry (List ℕ)) → List ℕ
entries_octets [] = []
entries_octets (e ∷ es) = entry_octets e ++ entries_octets es

-- a log: how many records there are, and the records
abbrev pub log_octets : List (LogEntry (List ℕ)) → List ℕ
log_octets es = short (length es) ++ entries_octets es

-- how much of a log is committed, and the log
abbrev pub held_octets : Snapshot (List ℕ) → List ℕ
held_octets held = number held.commit_number ++ log_octets held.log

-- a log that may be missing: 0, or 1 and the log
abbrev pub perhaps_octets : Option (Snapshot (List ℕ)) → List ℕ
perhaps_octets None = 0 ∷ []
perhaps_octets (Some held) = 1 ∷ held_octets held

-- the octet that says which kind of message it is
abbrev pub kind_of : {P : Type 0} → PeerMessage P → ℕ
kind_of (Prepare v e p k) = 1
kind_of (PrepareOk v p) = 2
kind_of (Commit v k) = 3
kind_of (StartViewChange v) = 4
kind_of (DoViewChange v c) = 5
kind_of (StartView v held) = 6
kind_of (Recovery x) = 9
kind_of (RecoveryResponse x a) = 10
kind_of (GetState v k) = 11
kind_of (NewState v x tail) = 12

-- what follows the sender's octet, by kind
abbrev pub body_octets : PeerMessage (List ℕ) → List ℕ
body_octets (Prepare v e p k) = number v ++ number p ++ number k ++ entry_octets e
body_octets (PrepareOk v p) = number v ++ number p
body_octets (Commit v k) = number v ++ number k
body_octets (StartViewChange v) = number v
body_octets (DoViewChange v c) = number v ++ number c.last_normal_view ++ number c.commit_number ++ log_octets c.log
body_octets (StartView v held) = number v ++ held_octets held
body_octets (Recovery x) = number x
body_octets (RecoveryResponse x a) = number a.view_number ++ number x ++ perhaps_octets a.held
body_octets (GetState v k) = number v ++ number k
body_octets (NewState v x tail) = number v ++ number tail.commit_number ++ number x ++ log_octets tail.log

-- what follows the length: version 2, the cluster's number in six octets, the kind, the sender's index, and the rest by
-- kind
abbrev pub rest_octets : ℕ → ℕ → PeerMessage (List ℕ) → List ℕ
rest_octets cluster sender m = 2 ∷ (cluster_octets cluster ++ kind_of m ∷ sender ∷ body_octets m)

-- a frame: the length of the rest in four octets, and the rest
abbrev pub frame_octets : ℕ → ℕ → PeerMessage (List ℕ) → List ℕ
frame_octets cluster sender m = short (length (rest_octets cluster sender m)) ++ rest_octets cluster sender m

-- a client's numbers are of 63 bits, and one that names itself has no life
pub record IsClientInRange (c : Client) : Type 0 where
  pub life : c.life < 2 ^ 63
  pub number_is : c.number < 2 ^ 63
  pub named : c.home ≡ 0 → c.life ≡ 0

-- a record's numbers are of 63 bits, and its payload's length is of 32
pub record IsEntryInRange (e : LogEntry (List ℕ)) : Type 0 where
  pub client : IsClientInRange e.client
  pub request : e.request_number < 2 ^ 63
  pub payload : length e.payload < 2 ^ 32

-- all records are in range
abbrev pub AreEntriesInRange : List (LogEntry (List ℕ)) → Type 0
AreEntriesInRange [] = Unit {0}
AreEntriesInRange (e ∷ es) = IsEntryInRange e × AreEntriesInRange es

-- a log's records are in range, and fewer than 2 ^ 32
abbrev pub IsLogInRange : List (LogEntry (List ℕ)) → Type 0
IsLogInRange es = (length es < 2 ^ 32) × AreEntriesInRange es

-- a log is in range, and so is how much of it is committed
abbrev pub IsHeldInRange : Snapshot (List ℕ) → Type 0
IsHeldInRange held = (held.commit_number < 2 ^ 63) × IsLogInRange held.log

-- a log that may be missing is in range where it is there
abbrev pub IsPerhapsInRange : Option (Snapshot (List ℕ)) → Type 0
IsPerhapsInRange None = Unit {0}
IsPerhapsInRange (Some held) = IsHeldInRange held

-- the messages that have a frame, its length aside
abbrev pub IsInRange : PeerMessage (List ℕ) → Type 0
IsInRange (Prepare v e p k) = (v < 2 ^ 63) × (p < 2 ^ 63) × (k < 2 ^ 63) × IsEntryInRange e
IsInRange (PrepareOk v p) = (v < 2 ^ 63) × (p < 2 ^ 63)
IsInRange (Commit v k) = (v < 2 ^ 63) × (k < 2 ^ 63)
IsInRange (StartViewChange v) = v < 2 ^ 63
IsInRange (DoViewChange v c) = (v < 2 ^ 63) × (c.last_normal_view < 2 ^ 63) × (c.commit_number < 2 ^ 63)
    × IsLogInRange c.log
IsInRange (StartView v held) = (v < 2 ^ 63) × IsHeldInRange held
IsInRange (Recovery x) = x < 2 ^ 63
IsInRange (RecoveryResponse x a) = (a.view_number < 2 ^ 63) × (x < 2 ^ 63) × IsPerhapsInRange a.held
IsInRange (GetState v k) = (v < 2 ^ 63) × (k < 2 ^ 63)
IsInRange (NewState v x tail) = (v < 2 ^ 63) × (tail.commit_number < 2 ^ 63) × (x < 2 ^ 63) × IsLogInRange tail.log
