-- Frames: what contracts that aren't public say of it.
-- What public contracts say is in specs/Left.
use Rattle.std.specs.Prelude.{◌≤◌, ◌+◌, ℕ, length, Option, Some, None}
use Rattle.std.specs.Prelude.{Vec}
use Rattle.std.specs.declared.alloc.Global.{Global}
use Rattle.vr_wire.specs.Frames.{limit}
use Rattle.vr_wire.specs.Parts.{part_head}
use Rattle.vr_wire.specs.declared.parts.Parts.{Parts}

-- such a frame is within the limit
abbrev pub IsPlainLeft : Option (Vec ℕ Global) → Type 0
IsPlainLeft None = Unit {0}
IsPlainLeft (Some v) = length v.items ≤ limit

-- a part of this size is within the limit, and the next part is one of those that there are
pub record AreLeft (p : Parts) : Type 0 where
  pub small : part_head + p.size ≤ limit
  pub place_is : p.place ≤ p.count
  pub start_is : p.start ≤ length p.octets.items
