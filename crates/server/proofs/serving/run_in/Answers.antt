-- What search doesn't prove of `run_in`: what `run` requires, by lemmas of `Crossing` and `Crossing` (`node_gate`).
use borrow.Author.Rules.{rules}
use denote.Param as Param
use denote.Param.Send.{IsSend, IsSync, sendable, param_sync}
use denote.Ref.{NamedLft}
use Rattle.file_device.specs.contracts.device.FileDeviceDevice.TheImpl as DeviceRule
use Rattle.file_device.specs.contracts.file.FileDevice as FileDevice
use Rattle.file_device.specs.contracts.journal_calls.JournalFileDevice.TheImpl as JournalRule
use Rattle.file_device.specs.contracts.journal_file.JournalFile as JournalFile
use Rattle.node_gate.proofs.Crossing.{seat_send}
use Rattle.node_gate.specs.contracts.gate.NodeGate as NodeGate
use Rattle.node_gate.specs.declared.identity.NodeIdentity as NodeIdentity
use Rattle.server.proofs.Crossing.{way_send, no_reads_send, clockwork_sync}
use Rattle.server.specs.contracts.peer_queues.PeerQueuesAt as PeerQueuesAt
use Rattle.server.specs.contracts.ticking.TimedNode as TimedNode
use Rattle.server.proofs.serving.run_in.Goals as goal

pub run-requires-send-D : goal.run-requires-send-D
run-requires-send-D g c κs within =
    let s : IsSync g.row.R = search (rules, c.requires-raw) parts 8 in
    let w : (a b d : NamedLft) (i : NodeIdentity.Ghosts (Param.param 2 g.row.I).Denot) →
    IsSend (NodeGate.the_row a b (Param.param 0 g.row.R) FileDevice.the_row JournalFile.the_row
    (Param.param 2 g.row.I) (PeerQueuesAt.the_row d (Param.param 0 g.row.R)) DeviceRule.ghosts
    JournalRule.ghosts i) =
    λ a b d i. way_send (Param.param 2 g.row.I) i a b d (Param.param 0 g.row.R) (param_sync 0 g.row.R s) in
    search (w, seat_send, sendable) depth 40

pub run-requires-send-U : goal.run-requires-send-U
run-requires-send-U g c κs within =
    let s : IsSync g.row.R = search (rules, c.requires-raw) parts 8 in
    let w : (a b d : NamedLft) (i : NodeIdentity.Ghosts (Param.param 2 g.row.I).Denot) →
    IsSend (NodeGate.the_row a b (Param.param 0 g.row.R) FileDevice.the_row JournalFile.the_row
    (Param.param 2 g.row.I) (PeerQueuesAt.the_row d (Param.param 0 g.row.R)) DeviceRule.ghosts
    JournalRule.ghosts i) =
    λ a b d i. way_send (Param.param 2 g.row.I) i a b d (Param.param 0 g.row.R) (param_sync 0 g.row.R s) in
    search (w, no_reads_send, sendable) depth 40

pub run-requires-sync-E : goal.run-requires-sync-E
run-requires-sync-E g c κs within =
    let s : IsSync g.row.R = search (rules, c.requires-raw) parts 8 in
    let e : (a b : NamedLft) (i : NodeIdentity.Ghosts (Param.param 2 g.row.I).Denot) →
    IsSync (TimedNode.the_row a b (Param.param 0 g.row.R) (Param.param 2 g.row.I) i) =
    λ a b i. clockwork_sync (Param.param 2 g.row.I) i a b (Param.param 0 g.row.R) (param_sync 0 g.row.R s) in
    search (e, sendable) depth 20
