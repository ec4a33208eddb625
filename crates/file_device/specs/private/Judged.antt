-- What the first octets of a file say of the journal that a replica is to keep there.
use Rattle.std.specs.Prelude.{◌≡◌, ◌≢◌, ◌⊎◌, ℕ, List, take, true, Result, Ok, Err}
use Rattle.file_device.specs.declared.owner.JournalOwner.{JournalOwner}
use Rattle.file_device.specs.declared.owner.ReplicaId.{ReplicaId}
use Rattle.file_device.specs.declared.judging.Holding.{Holding}
use Rattle.file_device.specs.declared.judging.Holding.TheVariants as holding
use Rattle.file_device.specs.declared.fault.FileDeviceError.{FileDeviceError}
use Rattle.file_device.specs.declared.fault.FileDeviceError.TheVariants as fault
use Rattle.file_device.specs.Unused.{is_torn}
use Rattle.file_device.specs.private.Heads.{earlier_head, head_of}

-- The file begins with the head of this owner's journal, ..
abbrev pub Heads : List ℕ → JournalOwner → Type 0
Heads front owner = take 136 front ≡ head_of owner

-- or with the first note of this replica's journal of version 1.
abbrev pub HeadsEarlier : List ℕ → ReplicaId → Type 0
HeadsEarlier front replica = take 59 front ≡ earlier_head replica

-- It is a journal of a replica that has this.
abbrev pub NamesReplica : List ℕ → (ReplicaId → Type 0) → Type 0
NamesReplica front P = ((o : JournalOwner) × Heads front o × P o.replica) ⊎ ((r : ReplicaId) × HeadsEarlier front r
    × P r)

-- It is a journal with a head that has this.
abbrev pub NamesOwner : List ℕ → (JournalOwner → Type 0) → Type 0
NamesOwner front P = (o : JournalOwner) × Heads front o × P o

-- What is said of a file that begins so, to the owner of the journal that is to be kept there. A refusal for the
-- replica, the schema or the suffix says whose journal was found. What is said to hold nothing has no octet that isn't
-- 0, but for those of this owner's head, where its writing was cut short.
abbrev pub IsJudged : JournalOwner → List ℕ → Result Holding FileDeviceError → Type 0
IsJudged owner front (Ok holding.Own) = Heads front owner
IsJudged owner front (Ok holding.Earlier) = HeadsEarlier front owner.replica
IsJudged owner front (Ok holding.Nothing) = is_torn front (head_of owner) ≡ true
IsJudged owner front (Err fault.ForeignCluster) = NamesReplica front (λ r. r.cluster ≢ owner.replica.cluster)
IsJudged owner front (Err fault.OtherReplica) = NamesReplica front (λ r. r ≢ owner.replica)
IsJudged owner front (Err fault.OtherSchema) = NamesOwner front (λ o. o.schema ≢ owner.schema)
IsJudged owner front (Err fault.OtherSuffix) = NamesOwner front (λ o. o.suffix ≢ owner.suffix)
IsJudged owner front (Err fault.NotAJournal) = (is_torn front (head_of owner) ≡ true) → ⊥
IsJudged owner front (Err fault.NoMemory) = Unit {0}
IsJudged owner front (Err e) = ⊥
