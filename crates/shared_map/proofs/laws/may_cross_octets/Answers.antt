-- What search doesn't prove of `may_cross_octets`: what `crosses` requires, by lemmas of `Crossing`.
use Rattle.shared_map.proofs.Crossing.{map_crosses}
use denote.Param.Send.{sendable}
use Rattle.std.proofs.Crossing.{crosses}
use Rattle.shared_map.proofs.laws.may_cross_octets.Goals as goal

pub crosses-requires-send-T : goal.crosses-requires-send-T
crosses-requires-send-T c κs = search (map_crosses, crosses, sendable) depth 60

pub crosses-requires-sync-T : goal.crosses-requires-sync-T
crosses-requires-sync-T c κs = search (map_crosses, crosses, sendable) depth 60
