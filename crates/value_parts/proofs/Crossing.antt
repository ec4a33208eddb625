-- Parts of values may cross threads, as a set for `search`: a crate that keeps them names it, since a search that goes
-- down through their lists as well runs out of steps.
use denote.Param.Send.{IsSend, IsSync, sendable}
use Rattle.std.proofs.Crossing.{crosses}
use Rattle.value_parts.specs.contracts.kept_part.KeptPart as Part
use Rattle.value_parts.specs.contracts.part_list.PartList as PartList

part_send : IsSend Part.the_field.row
part_send = search (crosses, sendable) depth 60 fits 20000

part_sync : IsSync Part.the_field.row
part_sync = search (crosses, sendable) depth 60 fits 20000

pub list_send : IsSend PartList.the_field.row
list_send = search (part_send, crosses, sendable) depth 60 fits 20000

pub list_sync : IsSync PartList.the_field.row
list_sync = search (part_sync, crosses, sendable) depth 60 fits 20000

pub ruleset parts_cross = (list_send, list_sync)
