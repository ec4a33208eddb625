-- What the processes of a machine stand for in the world of the protocol.
use Rattle.std.specs.Prelude.{◌≡◌, ℕ, ◌<◌, ◌≤◌, true, false, Option, Vec, List, [], ◌∷◌, ◌++◌, length, take, Some, None, is_some, slice_get}
use Rattle.std.specs.Global.{Global}
use Rattle.std.specs.Arc.{arc_value}
use Rattle.dir_node.specs.Restarting.{may_resume}
use Rattle.dir_node.specs.log_journal.Batches.{OneIsTold}
use Rattle.dir_node.specs.log_journal.Told.{Told, Tells, nothing_told}
use Rattle.journal.specs.Frames.{recorded}
use Rattle.state_machine.specs.dir_store.ldap_op.Values.{OpValue}
use Rattle.view_store.specs.Slots.{IsWellPlaced, own, found}
use Rattle.view_store.specs.declared.slot.Pair.{Pair}
use Rattle.vr_state.specs.Lists.{IsPrefix}
use Rattle.vr_state.specs.State.{first, is_recovering}
use Rattle.vr_state.specs.StepLaw.{LastIsKept, LatestIsOfClient}
use Rattle.vr_state.specs.declared.message.Change.{Change}
use Rattle.vr_wire.specs.PartLaws.{FramesGiveMessage}
use Rattle.vr_wire.specs.Parts.{TellMessage}
use Rattle.vr_world.specs.Law.{IsSize}
use Rattle.vr_world.specs.World.{World, after, has_used, sent_as, start}
use Rattle.vr_world.specs.declared.events.WorldEvent.{WorldEvent}
use Rattle.vr_world.specs.declared.words.Message.{Message}
use Rattle.dir_machine.specs.Happening.{HappenInTurn}
use Rattle.dir_machine.specs.Headline.{joined}
use Rattle.dir_machine.specs.Shown.{Stage, unborn, up, down, message_at, octets_of, stage}
use Rattle.dir_machine.specs.declared.events.MachineEvent.{MachineEvent}
use Rattle.dir_machine.specs.declared.events.Place.{Place}
use Rattle.dir_machine.specs.declared.machine.Machine.{Machine}
use Rattle.dir_machine.specs.declared.process.Left.{Left}
use Rattle.dir_machine.specs.declared.process.Process.{Process}
use Rattle.dir_machine.specs.declared.process.Process.TheVariants.{Unborn, Up, Down}
use Rattle.dir_machine.specs.declared.replies.MachineReply.{MachineReply}
use Rattle.dir_machine.specs.declared.replies.MachineReply.TheVariants as reply
use Rattle.dir_machine.specs.declared.running.Running.{Running}
use Rattle.dir_machine.specs.private.Processes.{IsNew, IsPlaced, KeepsIt, LogsIt, MemoryNode}

-- Laws of the crates below: strings of a journal tell one thing; a replica that isn't normal after a step recovers if
-- it did before; a client table's place is that of the client's record; the frames of a message give it.
pub record Laws : Type 0 where
  pub frames : FramesGiveMessage
  pub one : OneIsTold
  pub last : LastIsKept OpValue
  pub latest : LatestIsOfClient OpValue

-- No nonce of replica i is above this number.
abbrev pub AreUpTo : World OpValue → ℕ → ℕ → Type 0
AreUpTo w i most = (x : ℕ) → has_used x (w.nonces i) ≡ true → x ≤ most

-- A node that is up has its replica's state. With a journal that never recovers.
pub record IsUp (m : Machine) (w : World OpValue) (i : ℕ) (n : MemoryNode) : Type 0 where
  pub index : n.index ≡ i
  pub count : n.count ≡ m.count
  pub cluster : n.cluster ≡ m.cluster
  pub running : n.is_halted ≡ false
  pub replica : w.replicas i ≡ Some n.replica
  pub stored : w.stored i ≡ n.replica.view_number
  pub nonces : AreUpTo w i n.restarts
  pub schema : n.executed.schema ≡ arc_value m.schema
  pub suffix : n.executed.suffix ≡ m.suffix
  pub executed : IsPrefix n.executed.records (take n.replica.commit_number n.replica.log)
  pub pair : KeepsIt n
  pub log : LogsIt n
  pub journaled : is_some n.journal ≡ m.journaled
  pub active : m.journaled ≡ true → is_recovering n.replica.status ≡ false
  pub started : 0 < n.restarts
  pub placed : IsPlaced n.device

-- What a journal tells is what the world keeps of replica i.
pub record HasKept (w : World OpValue) (i : ℕ) (t : Told) : Type 0 where
  pub stored : w.stored i ≡ t.kept.view
  pub change : Change OpValue
  pub kept : w.kept i ≡ Some change
  pub log : change.log ≡ t.kept.log
  pub last : change.last_normal_view ≡ t.kept.last
  pub low : t.kept.k ≤ change.commit_number

-- What a journal tells may be gone on from, and is what the world keeps.
pub record IsKeptTold (w : World OpValue) (i : ℕ) (t : Told) : Type 0 where
  pub whole : may_resume t ≡ true
  pub has : HasKept w i t

-- So with whatever these strings tell.
abbrev pub IsLogOf : World OpValue → ℕ → List (List ℕ) → Type 0
IsLogOf w i strings = (t : Told) → Tells nothing_told strings t → IsKeptTold w i t

-- The journal is that of replica i, which is down; where there is none, so is the view of the pair.
abbrev pub IsKeptBy : World OpValue → ℕ → ℕ → Option (Vec ℕ Global) → Type 0
IsKeptBy w i view None = w.stored i ≡ view
IsKeptBy w i view (Some octets) = IsLogOf w i (recorded octets.items)

-- A process that ended: its replica is down, and its devices hold its stored view, or, with a journal, what that keeps.
pub record IsDown (m : Machine) (w : World OpValue) (i : ℕ) (left : Left) : Type 0 where
  pub pair : Pair
  pub found_is : found m.cluster left.image.items ≡ own pair
  pub down : w.replicas i ≡ None
  pub journaled : is_some left.journal ≡ m.journaled
  pub kept : IsKeptBy w i pair.view left.journal
  pub nonces : AreUpTo w i pair.restarts
  pub placed : IsWellPlaced left.image.items

-- A process that was never up: its replica is as at the start.
pub record IsUnborn (m : Machine) (w : World OpValue) (i : ℕ) : Type 0 where
  pub replica : w.replicas i ≡ Some (first m.count)
  pub stored : w.stored i ≡ 0
  pub nonces : AreUpTo w i 0

-- A process stands for replica i of a world, and this is what was shown of it.
abbrev pub StandsFor : Machine → World OpValue → ℕ → Stage → Process → Type 0
StandsFor m w i s (Up n f) = (s ≡ up) × IsUp m w i n
StandsFor m w i s (Down left) = (s ≡ down) × IsDown m w i left
StandsFor m w i s (Unborn image) = (s ≡ unborn) × IsUnborn m w i

-- Each message that was given out is one of the world.
abbrev pub AreSent : List MachineReply → World OpValue → Type 0
AreSent shown w = (place : Place) (x : Message OpValue) → message_at shown place ≡ Some x → (number : ℕ)
    × (sent_as number w.messages ≡ Some x)

-- The message at a place is told by frames of this number, for its receiver.
pub record IsFramed (cluster number to : ℕ) (o : Option (Message OpValue)) (frames : List (List ℕ)) : Type 0 where
  pub message : Message OpValue
  pub there : o ≡ Some message
  pub receiver : to ≡ message.to
  pub tell : TellMessage cluster message.from number message.body frames

-- So are all messages whose frames were shown.
abbrev pub AreFramed : ℕ → List MachineReply → Type 0
AreFramed cluster shown = (e : ℕ) (place : Place) (to : ℕ) (frames : Vec (Vec ℕ Global) Global) →
    slice_get shown e ≡ Some (reply.Written place to frames) → IsFramed cluster e to (message_at shown place)
    (octets_of frames.items)

-- So many processes, none of which was ever up.
pub record AreNew (count : ℕ) (processes : List Process) : Type 0 where
  pub counted : length processes ≡ count
  pub each : (i : ℕ) (p : Process) → slice_get processes i ≡ Some p → IsNew p

-- What a run has stands for a world.
pub record Stands (m : Machine) (w : World OpValue) (processes : List Process) (shown : List MachineReply) :
    Type 0 where
  pub counted : length processes ≡ m.count
  pub each : (i : ℕ) (p : Process) → slice_get processes i ≡ Some p → StandsFor m w i (stage shown i) p
  pub sent : AreSent shown w

-- So much of a schedule was played.
pub record IsPlayed (m : Machine) (played : List MachineEvent) (processes : List Process)
    (shown : List MachineReply) : Type 0 where
  pub happened : List (List (WorldEvent OpValue))
  pub in_turn : HappenInTurn (arc_value m.schema) m.suffix m.cluster m.count m.journaled [] played shown happened
      (start m.count)
  pub stands : Stands m (after m.count (joined happened)) processes shown

-- A run goes on by one event.
pub record GoesOn (m : Machine) (e : MachineEvent) (old new : Running) : Type 0 where
  pub counted : length new.processes.items ≡ length old.processes.items
  pub played : IsSize m.count → (es : List MachineEvent) → IsPlayed m es old.processes.items old.shown.items →
      IsPlayed m (es ++ e ∷ []) new.processes.items new.shown.items

-- Nothing was there.
pub record IsNothingShown (old new : Running) : Type 0 where
  pub processes : new.processes.items ≡ old.processes.items
  pub shown : new.shown.items ≡ old.shown.items ++ reply.Nothing ∷ []
