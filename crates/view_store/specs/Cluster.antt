-- The number of a cluster, and its octets.
use Rattle.std.specs.Prelude.{ℕ, ◌<◌, ◌≤◌, ◌^◌, List, drop}
use Rattle.std.specs.Int.{w64, to_be_bytes}

-- the number of a cluster: 1 to 281474976710655, which six octets hold
abbrev pub IsCluster : ℕ → Type 0
IsCluster number = (1 ≤ number) × (number < 2 ^ 48)

-- a cluster's number in six octets, the most significant first
abbrev pub cluster_octets : ℕ → List ℕ
cluster_octets cluster = drop 2 (to_be_bytes w64 cluster)
