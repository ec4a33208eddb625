-- What a key is seen as: what contracts that aren't public say of it.
-- What public contracts say is in specs/KeyOctets.
use Rattle.std.specs.Prelude.{◌≤◌}
use Rattle.ldap_syntax.specs.declared.key.KeyStorage.{KeyStorage}
use Rattle.ldap_syntax.specs.declared.key.KeyStorage.TheVariants.{Short, Long}

-- no more octets count than there is room for
abbrev pub IsWithinRoom : KeyStorage → Type 0
IsWithinRoom (Short n room) = n ≤ 30
IsWithinRoom (Long all) = Unit {0}
