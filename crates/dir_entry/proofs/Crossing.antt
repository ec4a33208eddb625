-- An entry and a relative name may cross threads, as a set for `search`: a crate that shares them names it, since a
-- search that goes down through their lists as well runs out of steps. Attributes are steps on the way.
use denote.Param.Send.{IsSend, IsSync, sendable}
use Rattle.std.proofs.Crossing.{crosses}
use Rattle.ldap_match.specs.ldap_dn.contracts.rdn.Rdn as Rdn
use Rattle.value_parts.proofs.Crossing.{parts_cross}
use Rattle.dir_entry.specs.contracts.attribute.Attribute as Attribute
use Rattle.dir_entry.specs.contracts.entry.Entry as Held

attribute_send : IsSend Attribute.the_field.row
attribute_send = search (parts_cross, crosses, sendable) depth 60 fits 20000

attribute_sync : IsSync Attribute.the_field.row
attribute_sync = search (parts_cross, crosses, sendable) depth 60 fits 20000

pub entry_send : IsSend Held.the_field.row
entry_send = search (attribute_send, crosses, sendable) depth 60 fits 20000

pub entry_sync : IsSync Held.the_field.row
entry_sync = search (attribute_sync, crosses, sendable) depth 60 fits 20000

pub rdn_send : IsSend Rdn.the_field.row
rdn_send = search (crosses, sendable) depth 60 fits 20000

pub rdn_sync : IsSync Rdn.the_field.row
rdn_sync = search (crosses, sendable) depth 60 fits 20000

pub ruleset entry_crosses = (entry_send, entry_sync, rdn_send, rdn_sync)
