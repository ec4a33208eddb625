-- What an update is that lies in memory so.
use Rattle.ldap_op.specs.Values.{OpValue}
use Rattle.ldap_op.specs.declared.held.Held.{Held}
use Rattle.ldap_op.specs.declared.held.Held.TheVariants.{Written, Loose}

-- what the octets say, or itself
abbrev pub held_view : Held → OpValue
held_view (Written spelled) = spelled
held_view (Loose update) = update
