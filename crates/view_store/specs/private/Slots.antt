-- The 64 octets of a stored pair: what contracts that aren't public say of it.
-- What public contracts say is in specs/Slots.
use Rattle.std.specs.Prelude.{ℕ, List, [], ◌∷◌, ◌++◌, Bool, ◌==◌, if◌then◌else◌, slice_index}
use Rattle.std.specs.Int.{w64, to_be_bytes}
use Rattle.view_store.specs.declared.slot.Pair.{Pair}
use Rattle.view_store.specs.Cluster.{cluster_octets}

-- the version of a pair's slot: 3 where a journal goes with it, else 2
abbrev pub version_of : Bool → ℕ
version_of journaled = if journaled then 3 else 2

-- the 31 octets behind the gate that a store writes: the version, the sequence, the view, the restarts, the cluster's
-- number
abbrev pub body_octets : ℕ → ℕ → Pair → List ℕ
body_octets sequence cluster pair =
    version_of pair.journaled ∷ [] ++ to_be_bytes w64 sequence ++ to_be_bytes w64 pair.view ++ to_be_bytes w64
    pair.restarts ++ cluster_octets cluster

-- whether the gate at a place is open, whatever stands behind it
abbrev pub is_gate_open : ℕ → List ℕ → Bool
is_gate_open at image = slice_index image at == 165
