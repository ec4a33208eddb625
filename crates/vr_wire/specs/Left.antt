-- The parts of a message that are still to come.
use Rattle.std.specs.Prelude.{◌-◌, ℕ, List, [], ◌∷◌, drop, Option, Some, None}
use Rattle.std.specs.Prelude.{Vec}
use Rattle.std.specs.declared.alloc.Global.{Global}
use Rattle.vr_wire.specs.Parts.{parts_from, pieces_of}
use Rattle.vr_wire.specs.declared.parts.Parts.{Parts}

-- a frame that isn't handed out yet
abbrev pub plain_left : Option (Vec ℕ Global) → List (List ℕ)
plain_left None = []
plain_left (Some v) = v.items ∷ []

-- the frames of the parts from the next one on
abbrev pub parts_left : Parts → List (List ℕ)
parts_left p =
    parts_from p.cluster p.sender p.number p.count p.place (pieces_of p.size (p.count - p.place)
    (drop p.start p.octets.items))
