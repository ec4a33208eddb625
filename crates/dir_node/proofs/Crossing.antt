-- A node may be handed to another thread where its devices may, as rules for `search`.
use denote.RattleType.{RattleType}
use denote.Struct.Declared
use denote.Param.Send.{IsSend, sendable, struct_send, plain_send, recorded_send, view_send}
use Rattle.std.proofs.Crossing.{crosses}
use Rattle.std.proofs.MapsCrossing.{crosses as maps_cross}
use Rattle.state_machine.proofs.Crossing.{executed_send}
use Rattle.state_machine.proofs.Op.TheSendSync as op
use Rattle.journal.proofs.journal.Journal.TheSendSync as journal
use Rattle.journal.specs.declared.device.Device as JournalDevice
use Rattle.view_store.proofs.ViewStore.TheSendSync as views
use Rattle.vr_state.proofs.replica.Replica.TheSendSync as replica
use Rattle.view_store.specs.declared.device.Device as Device
use Rattle.dir_node.specs.contracts.node.Node as Node
use Rattle.dir_node.specs.contracts.node.Node.TheInside as Inside

module _ (D J : RattleType) (g : Device.Ghosts D.Denot) (h : JournalDevice.Ghosts J.Denot) where
  inside_send : IsSend D → IsSend J → IsSend (Inside.the_row D J g h)
  inside_send s l =
      recorded_send (Inside.the_field D J g h).row _ _ (Inside.the_type D J g h).to_one
      (struct_send (Declared.shape (Inside.the_type D J g h)) (
        search (replica.the_field_send, op.the_send, maps_cross, crosses, sendable) depth 60 fits 20000,
        (
          executed_send,
          (
            search (s, views.the_send, crosses, sendable) depth 60 fits 20000,
            (
              search (l, journal.the_send, crosses, sendable) depth 60 fits 20000,
              (plain_send _ _ _ _ _, (plain_send _ _ _ _ _, (plain_send _ _ _ _ _, tt))),
            ),
          ),
        ),
      ))

  pub node_send : IsSend D → IsSend J → IsSend (Node.the_row D J g h)
  node_send s l = view_send (Inside.the_row D J g h) _ _ _ _ (inside_send s l)
