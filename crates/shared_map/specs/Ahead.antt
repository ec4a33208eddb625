-- What a walk over a set of numbers has before it.
use Rattle.std.specs.Prelude.{ℕ, List, [], ◌∷◌, Option, None, Some, filter, nat_lt}

-- the numbers of a set from one on that is in it; none is behind all
abbrev pub ahead : List ℕ → Option ℕ → List ℕ
ahead ns None = []
ahead ns (Some n) = n ∷ filter (nat_lt n) ns
