-- The first octets behind a frame's length.
use Rattle.std.specs.Prelude.{◌≡◌, ◌⊎◌, ◌||◌, ◌&&◌, nat_le, Bool, true, ℕ, List, [], ◌∷◌, ◌++◌, take, drop, Result, Ok, Err}
use Rattle.ldap_op.specs.Values.{OpValue}
use Rattle.view_store.specs.Cluster.{cluster_octets}
use Rattle.vr_state.specs.declared.message.PeerMessage.{PeerMessage}
use Rattle.vr_wire.specs.declared.error.WireError.{WireError}
use Rattle.vr_wire.specs.declared.error.WireError.TheVariants as error
use Rattle.vr_wire.specs.declared.labels.Portion.{Portion}
use Rattle.vr_wire.specs.Payloads.{IsFrame}
use Rattle.vr_wire.specs.Parts.{IsPart}

-- a frame of this cluster, of a message or of a part of one
abbrev pub IsAnyFrame : ℕ → List ℕ → Type 0
IsAnyFrame cluster octets =
    ((sender : ℕ) × (m : PeerMessage OpValue) × IsFrame cluster sender m octets)
    ⊎ ((p : Portion (List ℕ)) × IsPart cluster p octets)

-- the octets begin so, behind the length
abbrev pub Begins : List ℕ → List ℕ → Type 0
Begins first octets = take 9 (drop 4 octets) ≡ first

-- the octet of a kind of message, or of a part
abbrev pub is_kind : ℕ → Bool
is_kind k = (nat_le 1 k && nat_le k 6) || (nat_le 9 k && nat_le k 13)

-- what the first octets say: the kind and the sender, in this cluster; or no frame begins so, or none of this cluster
abbrev pub Heads : ℕ → List ℕ → Result (ℕ × ℕ) WireError → Type 0
Heads cluster first (Ok p) = (first ≡ 2 ∷ (cluster_octets cluster ++ p.0 ∷ p.1 ∷ [])) × (is_kind p.0 ≡ true)
Heads cluster first (Err error.BadFrame) = (other : ℕ) (octets : List ℕ) → Begins first octets →
    IsAnyFrame other octets → ⊥
Heads cluster first (Err error.ForeignFrame) = (octets : List ℕ) → Begins first octets → IsAnyFrame cluster octets → ⊥
Heads cluster first (Err error.NoMemory) = ⊥
