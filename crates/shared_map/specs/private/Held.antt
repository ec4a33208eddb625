-- What an octet string is seen as: what contracts that aren't public say of it.
-- What public contracts say is in specs/Held.
use Rattle.std.specs.Prelude.{◌≤◌}
use Rattle.shared_map.specs.declared.octets.Held.{Held}
use Rattle.shared_map.specs.declared.octets.Held.TheVariants.{Short, Long}

-- no more octets count than there is room for
abbrev pub IsWithinRoom : Held → Type 0
IsWithinRoom (Short n room) = n ≤ 22
IsWithinRoom (Long all) = Unit {0}
