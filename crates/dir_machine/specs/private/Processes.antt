-- What is made of one process at one call.
use Rattle.std.specs.Prelude.{◌≡◌, ◌≢◌, ◌⊎◌, ℕ, ◌+◌, ◌<◌, ◌≤◌, Bool, false, List, [], length, Option, Some, None, is_some, Vec, Result}
use Rattle.std.specs.Global.{Global}
use Rattle.std.specs.Arc.{arc_value}
use Rattle.std.specs.declared.alloc.AllocError.{AllocError}
use Rattle.dir_node.specs.Handling.{MakesSteps}
use Rattle.dir_node.specs.Logged.{IsBegun, device_in}
use Rattle.dir_node.specs.NodeState.{CatchesUp, IsSameNode, KeepsLog, KeepsPair, NodeValue, given, head, pair_of}
use Rattle.dir_node.specs.Restarting.{IsRestart, Restart}
use Rattle.dir_node.specs.declared.owner.Owner.{Owner}
use Rattle.dir_node.specs.Outcomes.{outcome_of, standing_of}
use Rattle.dir_node.specs.declared.error.NodeError.{NodeError}
use Rattle.dir_node.specs.declared.error.NodeError.TheVariants.{NoMemory}
use Rattle.dir_node.specs.log_journal.Taken.{MakesSome}
use Rattle.dir_node.specs.log_journal.Told.{Told, Tells, nothing_told}
use Rattle.dir_node.specs.log_journal.vr_recover.Rules.{recovers}
use Rattle.dir_search.specs.Answer.{answer}
use Rattle.dir_search.specs.Compared.{compared}
use Rattle.dir_search.specs.directory_api.View.{answer_view, reply_view}
use Rattle.dir_search.specs.indexed_tree.Directory.{Directory}
use Rattle.dir_search.specs.ldap_msg.Messages.{CompareRequestValue, SearchRequestValue}
use Rattle.state_machine.specs.Executing.{directory_at, due_after}
use Rattle.state_machine.specs.dir_store.ldap_op.Values.{OpValue}
use Rattle.journal.specs.Frames.{recorded}
use Rattle.journal.specs.Memory as journals
use Rattle.view_store.specs.Memory.{MemoryModel, MayLeave, seen_after}
use Rattle.view_store.specs.declared.slot.Pair.{Pair}
use Rattle.view_store.specs.Slots.{IsWellPlaced, found, own}
use Rattle.view_store.specs.Store.{IsFormerOrNew}
use Rattle.vr_state.specs.Journaled.{Kept, IsKeptOf}
use Rattle.vr_state.specs.Outcome.{idle}
use Rattle.vr_state.specs.State.{State, first}
use Rattle.vr_state.specs.Words.{Client}
use Rattle.vr_state.specs.declared.event.Event.{Event}
use Rattle.vr_state.specs.declared.message.Outputs.{Outputs}
use Rattle.dir_machine.specs.Shown.{became_view}
use Rattle.dir_machine.specs.declared.machine.Machine.{Machine}
use Rattle.dir_machine.specs.declared.process.Left.{Left}
use Rattle.dir_machine.specs.declared.process.Process.{Process}
use Rattle.dir_machine.specs.declared.process.Process.TheVariants.{Unborn, Up, Down}
use Rattle.dir_machine.specs.declared.replies.MachineReply.{MachineReply}
use Rattle.dir_machine.specs.declared.replies.MachineReply.TheVariants as reply

-- a node over devices in memory
abbrev pub MemoryNode : Type 0
MemoryNode = NodeValue MemoryModel journals.MemoryModel

-- every crash leaves the node's pair
abbrev pub KeepsIt : MemoryNode → Type 0
KeepsIt n = KeepsPair (λ d. MayLeave d.base d.events) n

-- every crash leaves a journal that tells the node, where it keeps one
abbrev pub LogsIt : MemoryNode → Type 0
LogsIt n = KeepsLog (λ j. journals.MayLeave j.base j.events) n

-- A journal's octets are what a crash may leave of its device, where there is one.
abbrev pub IsJournalLeft : Option journals.MemoryModel → Option (Vec ℕ Global) → Type 0
IsJournalLeft None None = Unit {0}
IsJournalLeft (Some j) (Some octets) = journals.MayLeave j.base j.events octets.items
IsJournalLeft _ _ = ⊥

-- Strings tell a replica's state below the head of t.
pub record IsKeptIn (t : Told) (r : State OpValue) (strings : List (List ℕ)) : Type 0 where
  pub kept : Kept OpValue
  pub tells : Tells nothing_told strings (record t { kept = kept })
  pub of : IsKeptOf kept r

-- Where there is a journal, its octets tell this state below this head.
abbrev pub TellsIn : Told → State OpValue → Option (Vec ℕ Global) → Type 0
TellsIn t r None = Unit {0}
TellsIn t r (Some octets) = IsKeptIn t r (recorded octets.items)

-- What the device gives, and what a crash may leave of it, is as stores leave it.
pub record IsPlaced (d : MemoryModel) : Type 0 where
  pub seen : IsWellPlaced (seen_after d.base d.events)
  pub left : (image : List ℕ) → MayLeave d.base d.events image → IsWellPlaced image

-- the octets that a device gives to begin with are as stores leave them
abbrev pub HeldPlaced : MemoryModel → Type 0
HeldPlaced d = IsWellPlaced (seen_after d.base d.events)

-- A node took some of these events, each a step.
pub record Took (events : List (Event OpValue)) (old new : MemoryNode)
    (outs : List (Result (Outputs OpValue) AllocError)) (behind : Bool) : Type 0 where
  pub steps : MakesSteps old.count old.index old.replica events outs new.replica
  pub executed : CatchesUp behind old.executed.records (due_after (length old.executed.records)
      new.replica.commit_number new.replica.log) new.executed.records
  pub pair : KeepsIt new
  pub log : LogsIt new
  pub running : new.is_halted ≡ false
  pub same : IsSameNode old new
  pub placed : old.is_halted ≡ false → HeldPlaced old.device → IsPlaced new.device

-- A node's process ended inside a call: the node took some first of these events, the pair's device holds the pair from
-- before them or from after, and the journal, where there is one, tells the replica after them.
pub record EndedInside (events : List (Event OpValue)) (old : MemoryNode) (left : Left) : Type 0 where
  pub replica : State OpValue
  pub steps : MakesSome old.count old.index old.replica events replica
  pub pair : (found old.cluster left.image.items ≡ own (pair_of old))
      ⊎ (found old.cluster left.image.items ≡ own (record (pair_of old) { view = replica.view_number }))
  pub placed : IsWellPlaced left.image.items
  pub journaled : is_some left.journal ≡ is_some old.journal
  pub log : TellsIn (head old) replica left.journal

-- A process was never up.
abbrev pub IsNew : Process → Type 0
IsNew (Unborn image) = Unit {0}
IsNew _ = ⊥

-- What is left is what a crash may leave of a node's devices.
pub record IsLeftOf (n : MemoryNode) (left : Left) : Type 0 where
  pub image : MayLeave n.device.base n.device.events left.image.items
  pub journal : IsJournalLeft (device_in n.journal) left.journal

-- A process ended since a device failed: it is down, over what a crash may leave of the node's devices.
abbrev pub IsStopped : ℕ → MemoryNode → NodeError → Process → MachineReply → Type 0
IsStopped i n error (Down left) (reply.Stopped j e) = (j ≡ i) × (e ≡ error) × IsLeftOf n left
IsStopped i n error _ _ = ⊥

-- Replica i's process is given these events.
abbrev pub IsGiven : ℕ → List (Event OpValue) → Process → Process → MachineReply → Type 0
IsGiven i events (Up old f) (Up new g) (reply.Handled j outs behind) = (j ≡ i) × Took events old new outs.items behind
IsGiven i events (Up old f) (Up new g) (reply.Refused j e) = (j ≡ i) × (e ≡ NoMemory) × (new ≡ old)
IsGiven i events (Up old f) (Down left) (reply.Stopped j e) =
    (j ≡ i) × (e ≢ NoMemory) × (old.is_halted ≡ false → HeldPlaced old.device → KeepsIt old →
    EndedInside events old left)
IsGiven i events (Down old) (Down new) reply.Nothing = new ≡ old
IsGiven i events (Unborn old) (Unborn new) reply.Nothing = Unit {0}
IsGiven i events _ _ _ = ⊥

-- Replica i's process ends, if it is up.
abbrev pub IsEnded : ℕ → Process → Process → MachineReply → Type 0
IsEnded i (Up old f) (Down left) (reply.Crashed j) = (j ≡ i) × IsLeftOf old left
IsEnded i (Down old) (Down new) reply.Nothing = new ≡ old
IsEnded i (Unborn old) (Unborn new) reply.Nothing = Unit {0}
IsEnded i _ _ _ = ⊥

-- A node as it is made for replica i of a machine: this state, nothing executed.
pub record IsBorn (m : Machine) (i : ℕ) (r : State OpValue) (restarts : ℕ) (n : MemoryNode) : Type 0 where
  pub index : n.index ≡ i
  pub count : n.count ≡ m.count
  pub cluster : n.cluster ≡ m.cluster
  pub replica : n.replica ≡ r
  pub schema : n.executed.schema ≡ arc_value m.schema
  pub suffix : n.executed.suffix ≡ m.suffix
  pub records : n.executed.records ≡ []
  pub restarts_is : n.restarts ≡ restarts
  pub running : n.is_halted ≡ false
  pub pair : KeepsIt n
  pub log : LogsIt n

-- What is shown of a start of replica i that was refused.
abbrev pub IsRefusal : ℕ → MachineReply → Type 0
IsRefusal i (reply.Refused j e) = j ≡ i
IsRefusal i (reply.Stopped j e) = j ≡ i
IsRefusal i _ = ⊥

-- who owns the journal of a machine's replica
abbrev pub owner : Machine → ℕ → Owner
owner m i = record { cluster = m.cluster; index = i; count = m.count }

-- a later start without a journal: the replica recovers in its stored view
abbrev pub alone : Owner → Pair → Restart
alone o pair = record {
  pair = record { view = pair.view; restarts = pair.restarts + 1; journaled = false };
  notes = [];
  outcome = recovers o.count o.index pair.view (pair.restarts + 1);
  catch_up = 0;
}

-- A later start over this pair and what a journal holds, where there is one.
abbrev pub IsStartOver : Owner → Pair → Option (Vec ℕ Global) → Restart → Type 0
IsStartOver o pair None start = start ≡ alone o pair
IsStartOver o pair (Some octets) start = IsRestart o pair (recorded octets.items) start

-- A node that started again over what was left.
pub record StartsOver (m : Machine) (i : ℕ) (left : Left) (n : MemoryNode) (out : Outputs OpValue) : Type 0 where
  pub pair : Pair
  pub found_is : found m.cluster left.image.items ≡ own pair
  pub start : Restart
  pub is : IsStartOver (owner m i) pair left.journal start
  pub born : IsBorn m i start.outcome.state start.pair.restarts n
  pub journaled : is_some n.journal ≡ is_some left.journal
  pub gives : given n.replica out ≡ start.outcome

-- A start that was refused leaves the octets that were there, or the pair from before it or from after it.
abbrev pub IsPairLeft : Machine → ℕ → (old new : Left) → Type 0
IsPairLeft m i old new = (new.image.items ≡ old.image.items)
    ⊎ ((pair : Pair) × (start : Restart) × (found m.cluster old.image.items ≡ own pair) × IsStartOver (owner m i) pair
    old.journal start
    × IsFormerOrNew m.cluster (own pair) start.pair new.image.items)

-- And a journal that is read as before, or as that and some first of what it notes.
abbrev pub IsLogLeft : Machine → ℕ → Left → Option (Vec ℕ Global) → Option (Vec ℕ Global) → Type 0
IsLogLeft m i left None None = Unit {0}
IsLogLeft m i left (Some old) (Some new) = (recorded new.items ≡ recorded old.items)
    ⊎ ((pair : Pair) × (start : Restart) × (found m.cluster left.image.items ≡ own pair) × IsRestart (owner m i) pair
    (recorded old.items) start
    × IsBegun (recorded old.items) start.notes new.items)
IsLogLeft m i left _ _ = ⊥

-- What a start leaves that was refused.
pub record IsLeftByStart (m : Machine) (i : ℕ) (old new : Left) : Type 0 where
  pub pair : IsPairLeft m i old new
  pub log : IsLogLeft m i old old.journal new.journal

-- Replica i's process starts, if it isn't up.
abbrev pub IsStarted : Machine → ℕ → Process → Process → MachineReply → Type 0
IsStarted m i (Unborn old) (Up n f) (reply.Started j restarts out) =
    (j ≡ i) × (restarts ≡ n.restarts) × IsBorn m i (first m.count) 1 n × (given n.replica out ≡ idle (first m.count))
    × IsPlaced n.device × (is_some n.journal ≡ m.journaled)
IsStarted m i (Unborn old) (Unborn new) x = IsRefusal i x
IsStarted m i (Down left) (Up n f) (reply.Started j restarts out) =
    (j ≡ i) × (restarts ≡ n.restarts) × StartsOver m i left n out × (IsWellPlaced left.image.items → IsPlaced n.device)
IsStarted m i (Down old) (Down new) x = IsRefusal i x × (IsWellPlaced old.image.items → (p : Pair) →
    found m.cluster old.image.items ≡ own p → IsLeftByStart m i old new)
IsStarted m i (Up old f) (Up new g) reply.Nothing = new ≡ old
IsStarted m i _ _ _ = ⊥

-- What is shown of a client's request at a process.
abbrev pub IsAnswered : ℕ → Client → ℕ → Process → MachineReply → Type 0
IsAnswered i client number (Up n f) (reply.Outcome j o) = (j ≡ i) × (became_view o ≡ outcome_of n client number)
IsAnswered i client number (Up n f) _ = ⊥
IsAnswered i client number _ reply.Nothing = Unit {0}
IsAnswered i client number _ _ = ⊥

-- What a read at a node finds, after what it has executed.
pub record IsFoundBy {A : Type 0} (n : MemoryNode) (named number : ℕ) (read : Directory → A) (found : A) : Type 0 where
  pub enough : named ≤ number
  pub executed : number ≡ length n.executed.records
  pub is : found ≡ read (directory_at n.executed)

-- A read at a node comes too early.
pub record IsEarlyAt (n : MemoryNode) (named number : ℕ) : Type 0 where
  pub fewer : number < named
  pub executed : number ≡ length n.executed.records

-- What is shown of a search at a process.
abbrev pub IsSearched : ℕ → ℕ → SearchRequestValue → Process → MachineReply → Type 0
IsSearched i named q (Up n f) (reply.Found j number a) = (j ≡ i) × IsFoundBy n named number (λ d. answer d q)
    (answer_view a)
IsSearched i named q (Up n f) (reply.NotYet j number) = (j ≡ i) × IsEarlyAt n named number
IsSearched i named q (Up n f) (reply.Refused j e) = (j ≡ i) × (e ≡ NoMemory)
IsSearched i named q (Up n f) _ = ⊥
IsSearched i named q _ reply.Nothing = Unit {0}
IsSearched i named q _ _ = ⊥

-- What is shown of a compare at a process.
abbrev pub IsCompared : ℕ → ℕ → CompareRequestValue → Process → MachineReply → Type 0
IsCompared i named q (Up n f) (reply.Compared j number r) = (j ≡ i) × IsFoundBy n named number (λ d. compared d q)
    (reply_view r)
IsCompared i named q (Up n f) (reply.NotYet j number) = (j ≡ i) × IsEarlyAt n named number
IsCompared i named q (Up n f) (reply.Refused j e) = (j ≡ i) × (e ≡ NoMemory)
IsCompared i named q (Up n f) _ = ⊥
IsCompared i named q _ reply.Nothing = Unit {0}
IsCompared i named q _ _ = ⊥

-- What is shown of how far a process is.
abbrev pub IsToldOf : ℕ → Process → MachineReply → Type 0
IsToldOf i (Up n f) x = x ≡ reply.Standing i n.replica.view_number (standing_of n) (length n.replica.log)
    n.replica.commit_number
IsToldOf i _ reply.Nothing = Unit {0}
IsToldOf i _ _ = ⊥
