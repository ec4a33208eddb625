-- The octets that the file of a journal begins with: whose it is, spelled as a note that begins a journal, in a frame
-- of its own.
use Rattle.std.specs.Prelude.{ℕ, List, [], ◌∷◌, ◌++◌, take}
use Rattle.std.specs.Int.{w64, to_be_bytes}
use Rattle.sha2.specs.Sha256.{sha256}
use Rattle.journal.specs.Frames.{frame}
use Rattle.file_device.specs.declared.owner.JournalOwner.{JournalOwner}
use Rattle.file_device.specs.declared.owner.ReplicaId.{ReplicaId}

-- a number in eight octets, the most significant first
unfoldable pub numeral : ℕ → List ℕ
numeral n = to_be_bytes w64 n

-- the first eight octets of the SHA-256 of octets
unfoldable pub sum_of : List ℕ → List ℕ
sum_of octets = take 8 (sha256 octets)

-- what stands before the sum of a beginning: the kind 0, the version, whose it is, 0, and what follows the numbers
abbrev pub body_of : ℕ → ReplicaId → List ℕ → List ℕ
body_of version replica rest =
    0 ∷ (numeral version ++ (numeral
    replica.cluster ++ (numeral replica.index ++ (numeral replica.count ++ (numeral 0 ++ rest)))))

-- the string of a beginning
abbrev pub beginning : ℕ → ReplicaId → List ℕ → List ℕ
beginning version replica rest = body_of version replica rest ++ sum_of (body_of version replica rest)

-- `dird journal` and the end of a line
abbrev pub magic : List ℕ
magic = 100 ∷ 105 ∷ 114 ∷ 100 ∷ 32 ∷ 106 ∷ 111 ∷ 117 ∷ 114 ∷ 110 ∷ 97 ∷ 108 ∷ 10 ∷ []

-- the head of a replica's journal
abbrev pub head_of : JournalOwner → List ℕ
head_of owner = frame (beginning 2 owner.replica (magic ++ (owner.schema ++ owner.suffix)))

-- what a journal of version 1 begins with, which has no head
abbrev pub earlier_head : ReplicaId → List ℕ
earlier_head replica = frame (beginning 1 replica [])
