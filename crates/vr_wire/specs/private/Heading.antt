-- Frames: what contracts that aren't public say of it.
-- What public contracts say is in specs/Heading.
use Rattle.std.specs.Prelude.{◌≡◌, ◌&&◌, ◌==◌, nat_lt, cond, slice_index, true, Option, Some, None, ℕ, List, [], ◌∷◌, ◌++◌, take, drop}
use Rattle.std.specs.Int.{w64, from_be_bytes}
use Rattle.view_store.specs.Cluster.{cluster_octets}
use Rattle.vr_wire.specs.Heading.{is_kind}

-- the cluster, the kind and the sender that nine octets tell, if their version, cluster and kind can be a frame's
abbrev pub heading_by : ℕ → List ℕ → Option (ℕ × (ℕ × ℕ))
heading_by cluster o =
    cond (slice_index o 0 == 2 && nat_lt 0 cluster && is_kind (slice_index o 7))
    (Some (cluster, (slice_index o 7, slice_index o 8))) None

-- the same, with the cluster that octets 1 to 6 tell
abbrev pub heading_of : List ℕ → Option (ℕ × (ℕ × ℕ))
heading_of o = heading_by (from_be_bytes w64 (0 ∷ 0 ∷ take 6 (drop 1 o))) o

-- the octets are those of what they tell
abbrev pub Tells : Option (ℕ × (ℕ × ℕ)) → List ℕ → Type 0
Tells None first = Unit {0}
Tells (Some p) first = (first ≡ 2 ∷ (cluster_octets p.0 ++ p.1.0 ∷ p.1.1 ∷ [])) × (is_kind p.1.0 ≡ true)
