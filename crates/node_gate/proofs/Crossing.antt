-- A node that threads share, and a session's gate to it, may cross threads, as rules for `search`: whoever runs the
-- threads names them.
use denote.RattleType.{RattleType}
use denote.Ref.{NamedLft}
use denote.Struct.Declared
use denote.Enum.Declared.{shape as enum_shape}
use denote.Enum.Enum as enum
use denote.Param.Send.{IsSend, IsSync, sendable, struct_send, struct_sync, plain_send, recorded_send, recorded_sync, enum_send, shr_send}
use Rattle.std.proofs.Crossing.{crosses}
use Rattle.std.proofs.MapsCrossing.{crosses as maps_cross}
use Rattle.std.proofs.marker.PhantomData.TheSendSync as phantom
use Rattle.std.proofs.string.String.TheSendSync as string
use Rattle.std.proofs.sync.Condvar.TheSendSync as condvar
use Rattle.std.proofs.sync.Mutex.TheSendSync as mutex
use Rattle.node_gate.proofs.inbox.Inbox.TheSendSync as inbox
use Rattle.node_gate.proofs.running.Call.TheSendSync as call
use Rattle.node_gate.proofs.standing.LastStanding.TheSendSync as standing
use Rattle.node_gate.proofs.waiters.Waiters.TheSendSync as waiters
use Rattle.dir_node.proofs.Crossing.{node_send}
use Rattle.dir_node.proofs.Op.TheSendSync as op
use Rattle.dir_node.proofs.Send.TheSendSync as send
use Rattle.dir_node.specs.declared.Device as Device
use Rattle.dir_node.specs.log_journal.journal.declared.device.Device as JournalDevice
use Rattle.dir_seats.proofs.Crossing.{publisher_send, teller_field_sync}
pub use Rattle.dir_seats.proofs.Crossing.{seat_send}
use Rattle.node_gate.specs.declared.identity.NodeIdentity as NodeIdentity
use Rattle.node_gate.specs.contracts.published.Here as Here
use Rattle.node_gate.specs.contracts.published.PublishedNode as PublishedNode
use Rattle.node_gate.specs.contracts.beats.LastBeat as LastBeat
use Rattle.std.specs.contracts.option.Option as Option
use Rattle.node_gate.specs.contracts.held.LockedNode as LockedNode
use Rattle.node_gate.specs.contracts.moved.Moved as Moved
use Rattle.node_gate.specs.contracts.running.SharedNode as SharedNode
use Rattle.node_gate.specs.contracts.gate.NodeGate as NodeGate

-- an option, of whatever it is
option_send : (T : RattleType) → IsSend T → IsSend (Option.the_row T)
option_send T s =
    recorded_send (enum.Enum (enum_shape (Option.the_type T))) _ _ (Option.the_type T).to_one
    (enum_send (enum_shape (Option.the_type T)) (tt, ((s, tt), tt)))

module _ (D J I : RattleType) (g : Device.Ghosts D.Denot) (h : JournalDevice.Ghosts J.Denot)
    (i : NodeIdentity.Ghosts I.Denot) where
  published_field_send : (a : NamedLft) (R : RattleType) → IsSync R → IsSend D → IsSend J →
      IsSend (PublishedNode.the_field a R D J g h).row
  published_field_send a R y s t =
      struct_send (Declared.shape (PublishedNode.the_type a R D J g h))
      (node_send D J g h s t, (publisher_send Here.the_row _ (shr_send _ _ R y), tt))

  held_send : (a : NamedLft) (R : RattleType) → IsSync R → IsSend D → IsSend J →
      IsSend (LockedNode.the_row a R D J I g h i)
  held_send a R y s t =
      recorded_send (LockedNode.the_field a R D J I g h i).row _ _ (LockedNode.the_type a R D J I g h i).to_one
      (struct_send (Declared.shape (LockedNode.the_type a R D J I g h i)) (
        published_field_send a R y s t,
        (
          search (crosses, sendable) depth 40,
          (
            plain_send _ _ _ _ _,
            (plain_send _ _ _ _ _, (plain_send _ _ _ _ _, (plain_send _ _ _ _ _, (phantom.the_field_send I, tt)))),
          ),
        ),
      ))

  last_beat_send : IsSend (LastBeat.the_row I i)
  last_beat_send =
      recorded_send (LastBeat.the_field I i).row _ _ (LastBeat.the_type I i).to_one
      (struct_send (Declared.shape (LastBeat.the_type I i)) (
        search (send.the_send, op.the_send, maps_cross, crosses, sendable) depth 60 fits 20000,
        (phantom.the_field_send I, tt),
      ))

  moved_send : IsSend (Moved.the_row D J g h)
  moved_send =
      recorded_send (Moved.the_field D J g h).row _ _ (Moved.the_type D J g h).to_one
      (struct_send (Declared.shape (Moved.the_type D J g h))
      (search (crosses, sendable) depth 20, (search (crosses, sendable) depth 20, tt)))

  pub running_sync : (a : NamedLft) (R : RattleType) → IsSync R → IsSend D → IsSend J →
      IsSync (SharedNode.the_row a R D J I g h i)
  running_sync a R y s t =
      let held : IsSend (LockedNode.the_row a R D J I g h i) = held_send a R y s t in
      let kept : IsSend (Option.the_row (LastBeat.the_row I i)) = option_send (LastBeat.the_row I i) last_beat_send in
      recorded_sync (SharedNode.the_field a R D J I g h i).row _ _ (SharedNode.the_type a R D J I g h i).to_one
      (struct_sync (Declared.shape (SharedNode.the_type a R D J I g h i)) (
        search (held, mutex.the_sync) depth 20,
        (
          standing.the_field_sync,
          (
            teller_field_sync Here.the_row,
            (
              waiters.the_field_sync,
              (
                search (inbox.the_sync, sendable) depth 20,
                (
                  search (kept, mutex.the_sync) depth 20,
                  (
                    search (call.the_send, mutex.the_sync) depth 20,
                    (condvar.the_field_sync, tt),
                  ),
                ),
              ),
            ),
          ),
        ),
      ))

  pub gate_send : (a b : NamedLft) (R P : RattleType) → IsSync R → IsSend D → IsSend J → IsSend P →
      IsSend (NodeGate.the_row a b R D J I P g h i)
  gate_send a b R P y s t p =
      let running : IsSync (SharedNode.the_row b R D J I g h i) = running_sync b R y s t in
      let moved : IsSend (Option.the_row (Moved.the_row D J g h)) = option_send (Moved.the_row D J g h) moved_send in
      recorded_send (NodeGate.the_field a b R D J I P g h i).row _ _ (NodeGate.the_type a b R D J I P g h i).to_one
      (struct_send (Declared.shape (NodeGate.the_type a b R D J I P g h i)) (
        shr_send _ _ R y,
        (
          search (running, sendable) depth 20,
          (
            p,
            (
              search (crosses, sendable, string.the_sync) depth 20,
              (
                search (crosses, sendable) depth 20,
                (
                  plain_send _ _ _ _ _,
                  (
                    search (crosses, sendable) depth 20,
                    (
                      search (moved, crosses, sendable) depth 20,
                      (search (crosses, sendable) depth 20, (search (phantom.the_field_send) depth 5, tt)),
                    ),
                  ),
                ),
              ),
            ),
          ),
        ),
      ))

pub ruleset gate_crosses = (running_sync, gate_send)
