-- What was executed may cross threads, as rules for `search`; and a store, for those who know what was executed alone.
use denote.Param.Send.{IsSend, IsSync, sendable}
use Rattle.std.proofs.Crossing.{crosses}
pub use Rattle.dir_store.proofs.Crossing.{store_crosses}
use Rattle.dir_store.proofs.Op.TheSendSync as op
use Rattle.state_machine.specs.contracts.executed.Executed as Held

pub executed_send : IsSend Held.the_field.row
executed_send = search (op.the_send, store_crosses, crosses, sendable) depth 60 fits 20000

pub executed_sync : IsSync Held.the_field.row
executed_sync = search (op.the_sync, store_crosses, crosses, sendable) depth 60 fits 20000

pub ruleset executed_crosses = (executed_send, executed_sync)
