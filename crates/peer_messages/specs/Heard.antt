-- Whom frames and notes are heard from, by their first octets.
use Rattle.std.specs.Prelude.{◌≡◌, ◌⊎◌, ◌+◌, ◌<◌, ◌≤◌, ◌&&◌, not, nat_eq, nat_lt, Bool, true, false, ℕ, List, take, drop, Option, Some, None, Result, Ok, Err}
use Rattle.std.specs.Int.{w32, from_be_bytes}
use Rattle.vr_short.specs.Notes.{note_heading}
use Rattle.peer_link.specs.vr_wire.Frames.{limit}
use Rattle.peer_link.specs.vr_wire.Heading.{Heads}
use Rattle.peer_link.specs.vr_wire.declared.error.WireError.{WireError}
use Rattle.peer_link.specs.vr_wire.declared.error.WireError.TheVariants as error
use Rattle.peer_messages.specs.declared.senders.Senders.{Senders}

-- whether another replica of the cluster has this index
abbrev pub is_other : Senders → ℕ → Bool
is_other s sender = not (nat_eq sender s.own) && nat_lt sender s.count

-- the length that a frame begins with
abbrev pub length_in : List ℕ → ℕ
length_in first = from_be_bytes w32 (take 4 first)

-- What the first 13 octets of a frame say: another replica of this cluster sends it, and so many octets are to come; or
-- it is too long or too short for any, or no frame begins so, or none of another replica; or none of this cluster does.
abbrev pub HeardFrame : Senders → List ℕ → Result ℕ WireError → Type 0
HeardFrame s first (Ok left) = (p : ℕ × ℕ) × Heads s.cluster (drop 4 first) (Ok p) × (is_other s p.1 ≡ true)
    × (length_in first ≡ left + 9) × (length_in first + 4 ≤ limit)
HeardFrame s first (Err error.BadFrame) = (limit < length_in first + 4) ⊎ (length_in first < 9)
    ⊎ Heads s.cluster (drop 4 first) (Err error.BadFrame)
    ⊎ ((p : ℕ × ℕ) × Heads s.cluster (drop 4 first) (Ok p) × (is_other s p.1 ≡ false))
HeardFrame s first (Err error.ForeignFrame) = Heads s.cluster (drop 4 first) (Err error.ForeignFrame)
HeardFrame s first (Err error.NoMemory) = Heads s.cluster (drop 4 first) (Err error.NoMemory)

-- whose note begins so, where it is another replica's of this cluster
abbrev pub HeardNote : Senders → List ℕ → Option ℕ → Type 0
HeardNote s first (Some sender) = (first ≡ note_heading s.cluster sender) × (is_other s sender ≡ true)
HeardNote s first None = (sender : ℕ) → first ≡ note_heading s.cluster sender → is_other s sender ≡ false
