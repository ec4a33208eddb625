-- Posting lists may cross threads, as a set for `search`: a crate whose types hold them names it.
use denote.Param.Send.{IsSend, IsSync, sendable}
use Rattle.std.proofs.Crossing.{crosses}
use Rattle.index_choice.proofs.dir_entry.shared_map.Crossing.{map_crosses}
use Rattle.dir_index.specs.contracts.postings.Postings as Held

pub postings_send : IsSend Held.the_field.row
postings_send = search (map_crosses, crosses, sendable) depth 60

pub postings_sync : IsSync Held.the_field.row
postings_sync = search (map_crosses, crosses, sendable) depth 60

pub ruleset postings_cross = (postings_send, postings_sync, map_crosses, crosses, sendable)
