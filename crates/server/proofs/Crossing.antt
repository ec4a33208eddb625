-- What the threads of a server share, and what each of its sessions holds, may cross threads.
use denote.RattleType.{RattleType}
use denote.Ref.{NamedLft}
use denote.Struct.Declared
use denote.Param.Send.{IsSend, IsSync, sendable, struct_send, struct_sync, recorded_send, recorded_sync, shr_sync}
use Rattle.std.proofs.Crossing.{crosses}
use Rattle.file_device.proofs.view_guard.ViewGuard.TheSendSync as guard
use Rattle.file_device.specs.contracts.device.FileDeviceDevice.TheImpl as DeviceRule
use Rattle.file_device.specs.contracts.file.FileDevice as FileDevice
use Rattle.file_device.proofs.Crossing as files
use Rattle.file_device.specs.contracts.journal_calls.JournalFileDevice.TheImpl as JournalRule
use Rattle.file_device.specs.contracts.journal_file.JournalFile as JournalFile
use Rattle.node_gate.proofs.Crossing.{gate_send, running_sync}
use Rattle.node_gate.specs.declared.identity.NodeIdentity as NodeIdentity
use Rattle.node_gate.specs.contracts.gate.NodeGate as NodeGate
use Rattle.node_gate.specs.contracts.running.SharedNode as SharedNode
use Rattle.server.proofs.peer_queues.PeerQueuesAt.TheSendSync as peer_queues_at
use Rattle.server.proofs.peer_queues.PeerQueues.TheSendSync as peer_queues_laws
use Rattle.server.proofs.options.Times.TheSendSync as times
use Rattle.server.specs.contracts.peer_queues.PeerQueuesAt as PeerQueuesAt
use Rattle.server.specs.contracts.peer_queues.PeerQueues as PeerQueues
use Rattle.server.specs.contracts.ticking.TimedNode as TimedNode
use Rattle.server_threads.below.session_pool.specs.contracts.no_reads.NoReads as NoReads
use Rattle.server_threads.proofs.SharedParts.TheSendSync as shared_parts
use Rattle.std.proofs.marker.PhantomData.TheSendSync as phantom
use Rattle.std.proofs.time.Instant.TheSendSync as instant
use Rattle.std.specs.contracts.alloc.Global as Global

device_send : IsSend FileDevice.the_row
device_send = files.file_send

journal_send : IsSend JournalFile.the_row
journal_send = files.journal_send

-- a look that finds nothing holds nothing
pub no_reads_send : (T : RattleType) → IsSend (NoReads.the_row T)
no_reads_send T = recorded_send (NoReads.the_field T).row _ _ (NoReads.the_type T).to_one
    (struct_send (Declared.shape (NoReads.the_type T)) (phantom.the_field_send T, tt))

global_sync : IsSync Global.the_field.row
global_sync = search (crosses, sendable) depth 20

module _ (I : RattleType) (i : NodeIdentity.Ghosts I.Denot) where
  pub way_send : (a b c : NamedLft) (R : RattleType) → IsSync R →
      IsSend (NodeGate.the_row a b R FileDevice.the_row JournalFile.the_row I (PeerQueuesAt.the_row c R)
      DeviceRule.ghosts JournalRule.ghosts i)
  way_send a b c R y =
      let peer_queues : IsSend (PeerQueuesAt.the_row c R) = search (y, peer_queues_at.the_send) depth 5 in
      gate_send FileDevice.the_row JournalFile.the_row I DeviceRule.ghosts JournalRule.ghosts i a b R _ y device_send
      journal_send peer_queues

  pub shared_sync : (a : NamedLft) (R : RattleType) → IsSync R →
      IsSync (SharedNode.the_row a R FileDevice.the_row JournalFile.the_row I DeviceRule.ghosts JournalRule.ghosts i)
  shared_sync a R y = running_sync FileDevice.the_row JournalFile.the_row I DeviceRule.ghosts JournalRule.ghosts i a R
      y device_send journal_send

  pub clockwork_sync : (a b : NamedLft) (R : RattleType) → IsSync R → IsSync (TimedNode.the_row a b R I i)
  clockwork_sync a b R y =
      let running : IsSync (SharedNode.the_row b R FileDevice.the_row JournalFile.the_row I DeviceRule.ghosts
      JournalRule.ghosts i) = shared_sync b R y in
      let peer_queues : IsSync (PeerQueues.the_row a R) = search (y, peer_queues_laws.the_sync) depth 5 in
      recorded_sync (TimedNode.the_field a b R I i).row _ _ (TimedNode.the_type a b R I i).to_one
      (struct_sync (Declared.shape (TimedNode.the_type a b R I i)) (
        shr_sync _ _ R y,
        (
          global_sync,
          (
            search (running, sendable) depth 10,
            (
              search (peer_queues, sendable) depth 10,
              (
                search (shared_parts.the_sync, sendable) depth 10,
                (
                  search (times.the_field_sync, sendable) depth 10,
                  (
                    search (instant.the_field_sync, sendable) depth 10,
                    (
                      search (crosses, sendable) depth 20,
                      (
                        search (crosses, sendable) depth 20,
                        (
                          search (crosses, sendable) depth 20,
                          (
                            search (crosses, sendable) depth 20,
                            (
                              search (guard.the_sync, sendable) depth 10,
                              (
                                search (files.guard_sync, sendable) depth 20,
                                (
                                  search (crosses, sendable) depth 20,
                                  (
                                    search (crosses, sendable) depth 20,
                                    (
                                      search (crosses, sendable) depth 20,
                                      (search (crosses, sendable) depth 20, tt),
                                    ),
                                  ),
                                ),
                              ),
                            ),
                          ),
                        ),
                      ),
                    ),
                  ),
                ),
              ),
            ),
          ),
        ),
      ))
