-- A file that may become the stored view of a replica's first start, since no replica has promised what is in it.
use Rattle.std.specs.Prelude.{◌≡◌, ◌⊎◌, ℕ, Bool, true, ◌&&◌, ◌||◌, ◌==◌, List, [], ◌∷◌, ◌++◌, replicate}
use Rattle.view_store.specs.Cluster.{cluster_octets}

-- Each octet is 0, or the one in the same place of what was to be written.
abbrev pub is_torn : List ℕ → List ℕ → Bool
is_torn [] written = true
is_torn (x ∷ octets) [] = x == 0 && is_torn octets []
is_torn (x ∷ octets) (w ∷ written) = (x == 0 || x == w) && is_torn octets written

-- the slot that a first start stores: an open gate, the version, the sequence 1, view 0, one restart, the cluster
abbrev pub first_slot : ℕ → ℕ → List ℕ
first_slot version cluster =
    165 ∷ version ∷ (replicate 7 0 ++ 1 ∷ (replicate 8 0 ++ (replicate 7 0 ++ 1 ∷ cluster_octets cluster)))

-- Each octet is 0, or that of the first slot in the same place: nothing was written there, or the first store was cut
-- short.
abbrev pub IsUnused : ℕ → List ℕ → Type 0
IsUnused cluster octets = (is_torn octets (first_slot 2 cluster) ≡ true)
    ⊎ (is_torn octets (first_slot 3 cluster) ≡ true)
