-- A tree with its posting lists may cross threads, as a set for `search`.
use denote.Param.Send.{IsSend, IsSync, sendable}
use Rattle.std.proofs.Crossing.{crosses}
use Rattle.dir_index.proofs.Crossing.{postings_cross}
use Rattle.directory_api.proofs.dir_tree.TreeCrossing.{tree_crosses}
use Rattle.indexed_tree.specs.contracts.indexed.IndexedTree as Held

pub indexed_send : IsSend Held.the_field.row
indexed_send = search (tree_crosses, postings_cross, crosses, sendable) depth 60 fits 20000

pub indexed_sync : IsSync Held.the_field.row
indexed_sync = search (tree_crosses, postings_cross, crosses, sendable) depth 60 fits 20000

pub ruleset indexed_crosses = (indexed_send, indexed_sync, crosses, sendable)
