-- Notes: a number that goes with the next message of its sender on one connection. What the number says depends on that
-- message: with a DOVIEWCHANGE or a STARTVIEW, how many records are left out of its log; with a STARTVIEWCHANGE, how
-- many its sender has committed.
use Rattle.std.specs.Prelude.{◌≡◌, ℕ, List, [], ◌∷◌, ◌++◌, Option, Some, None}
use Rattle.view_store.specs.Cluster.{cluster_octets}
use Rattle.vr_wire.specs.Frames.{number}

-- how many octets follow the length, the version of frames, the cluster, the kind and the sender
abbrev pub note_heading : ℕ → ℕ → List ℕ
note_heading cluster sender = 0 ∷ 0 ∷ 0 ∷ 17 ∷ 2 ∷ (cluster_octets cluster ++ 15 ∷ sender ∷ [])

-- a note of this sender in this cluster
abbrev pub note_octets : ℕ → ℕ → ℕ → List ℕ
note_octets cluster sender n = note_heading cluster sender ++ number n

-- whose note of this cluster begins so, if one does
abbrev pub BeginsNote : ℕ → List ℕ → Option ℕ → Type 0
BeginsNote cluster first (Some sender) = first ≡ note_heading cluster sender
BeginsNote cluster first None = (sender : ℕ) → (first ≡ note_heading cluster sender) → ⊥
