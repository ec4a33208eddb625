-- A store may cross threads, as a set for `search`: whoever owns a store, or lends one to threads, names it.
use denote.Param.Send.{IsSend, IsSync, sendable}
use Rattle.std.proofs.Crossing.{crosses}
use Rattle.indexed_tree.proofs.Crossing.{indexed_crosses}
use Rattle.dir_store.specs.contracts.store.Store as Held

pub store_send : IsSend Held.the_field.row
store_send = search (indexed_crosses, crosses, sendable) depth 60 fits 20000

pub store_sync : IsSync Held.the_field.row
store_sync = search (indexed_crosses, crosses, sendable) depth 60 fits 20000

pub ruleset store_crosses = (store_send, store_sync)
