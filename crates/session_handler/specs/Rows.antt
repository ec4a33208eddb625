-- Octets that stand one after the other.
use Rattle.std.specs.Prelude.{ℕ, ◌+◌, List, [], ◌∷◌, ◌++◌, take, drop}

-- octets, one after the other
abbrev pub joined : List (List ℕ) → List ℕ
joined [] = []
joined (o ∷ os) = o ++ joined os

-- octets cut into rows of these lengths, from the first on
abbrev pub cut : List ℕ → List ℕ → List (List ℕ)
cut [] octets = []
cut (n ∷ ns) octets = take n octets ∷ cut ns (drop n octets)

-- the lengths together
abbrev pub total : List ℕ → ℕ
total [] = 0
total (n ∷ ns) = n + total ns
