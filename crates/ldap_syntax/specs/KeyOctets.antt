-- What a key is seen as.
use Rattle.std.specs.Prelude.{ℕ, List, take}
use Rattle.ldap_syntax.specs.declared.key.KeyStorage.{KeyStorage}
use Rattle.ldap_syntax.specs.declared.key.KeyStorage.TheVariants.{Short, Long}

-- the octets
abbrev pub octets_in : KeyStorage → List ℕ
octets_in (Short n room) = take n room
octets_in (Long all) = all.items
