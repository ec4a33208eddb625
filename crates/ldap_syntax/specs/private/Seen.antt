-- Octets that preparation leaves as they are.
use Rattle.std.specs.Prelude.{ℕ, List, [], ◌∷◌, Bool, true, false, cond, ◌&&◌, not, nat_eq, nat_le}

-- whether octets are those of ASCII that are seen, with single SPACEs between them, where a SPACE came before or not
abbrev pub are_seen_behind : Bool → List ℕ → Bool
are_seen_behind g [] = not g
are_seen_behind g (c ∷ v) = cond (nat_eq c 32) (not g && are_seen_behind true v) ((nat_le 33 c && nat_le c 126)
    && are_seen_behind false v)

-- whether they are, none of the SPACEs at an edge
abbrev pub are_seen : List ℕ → Bool
are_seen v = are_seen_behind true v
