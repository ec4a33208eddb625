-- What an octet string is seen as.
use Rattle.std.specs.Prelude.{ℕ, List, take}
use Rattle.shared_map.specs.declared.octets.Held.{Held}
use Rattle.shared_map.specs.declared.octets.Held.TheVariants.{Short, Long}

-- the octets
abbrev pub octets_in : Held → List ℕ
octets_in (Short n room) = take n room
octets_in (Long all) = all.value.items
