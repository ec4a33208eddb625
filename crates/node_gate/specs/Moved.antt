-- What an event makes of the node that threads share: the node before it and after it, and what is handed over of it to
-- the other replicas.
use Rattle.std.specs.Prelude.{◌≡◌, ◌⊎◌, ℕ, true, false, List, [], ◌∷◌, length, Option, Some, None, Result, Ok, Err}
use Rattle.std.specs.declared.alloc.AllocError.{AllocError}
use Rattle.dir_node.specs.dir_store.ldap_op.Values.{OpValue}
use Rattle.dir_node.specs.state_machine.Executing.{due_after}
use Rattle.dir_node.specs.vr_state.declared.event.Event.{Event}
use Rattle.dir_node.specs.vr_state.declared.event.Event.TheVariants as kind
use Rattle.dir_node.specs.vr_state.declared.message.Outputs.{Outputs}
use Rattle.dir_node.specs.vr_state.declared.message.PeerMessage.{PeerMessage}
use Rattle.dir_node.specs.vr_state.declared.message.Send.{Send}
use Rattle.dir_node.specs.vr_state.Outcome as steps
use Rattle.dir_node.specs.vr_state.State.{State}
use Rattle.dir_node.specs.vr_state.Step.{step}
use Rattle.dir_node.specs.declared.error.NodeError.{NodeError}
use Rattle.dir_node.specs.declared.error.NodeError.TheVariants as error
use Rattle.dir_node.specs.Handling.{MakesSteps}
use Rattle.dir_node.specs.NodeState.{NodeValue, CatchesUp}
use Rattle.dir_node.specs.log_journal.Taken.{MakesSome}
use Rattle.node_gate.specs.Batches.{sends_of}
use Rattle.node_gate.specs.Identities.{NodeIdentity, identity_of}
use Rattle.node_gate.specs.Sent.{TakesAll}
use Rattle.replica_clock.specs.declared.clock.Due.{Due}
use Rattle.replica_clock.specs.declared.clock.Due.TheVariants as due

-- The node before and the node after are both of this identity.
abbrev pub AreOf : {D J : Type 0} → NodeIdentity → (before after : NodeValue D J) → Type 0
AreOf own b a = (identity_of b ≡ own) × (identity_of a ≡ own)

-- the step of a node at an event
abbrev pub step_at : {D J : Type 0} → NodeValue D J → Event OpValue → steps.Outcome OpValue
step_at n event = step n.count n.index n.replica event

-- The committed records that come next are executed: all of them, or, for want of memory, a front of them.
abbrev pub ExecutesDue : {D J : Type 0} → (before after : NodeValue D J) → Type 0
ExecutesDue b a =
    CatchesUp false b.executed.records (due_after (length b.executed.records) a.replica.commit_number a.replica.log)
    a.executed.records
    ⊎ CatchesUp true b.executed.records (due_after (length b.executed.records) a.replica.commit_number a.replica.log)
    a.executed.records

-- The node made its step at an event, executed what is committed, and a way to the other replicas took what the step
-- sends, in its order, and nothing else.
pub record HasStepped {P D J : Type 0} (takes : P → ℕ → PeerMessage OpValue → P → Type 0) (event : Event OpValue)
    (b a : NodeValue D J) (before after : P) : Type 0 where
  pub replica : a.replica ≡ (step_at b event).state
  pub executed : ExecutesDue b a
  pub taken : TakesAll takes before (step_at b event).sends after

-- The node made its step at each of these events, in their order, but at those that were left out for want of memory;
-- these are the outputs. It executed what is committed, and a way to the other replicas took what the steps send, in
-- their order, and nothing else.
pub record HasSteppedAll {P D J : Type 0} (takes : P → ℕ → PeerMessage OpValue → P → Type 0)
    (events : List (Event OpValue))
    (outputs : List (Result (Outputs OpValue) AllocError)) (b a : NodeValue D J) (before after : P) : Type 0 where
  pub steps_are : MakesSteps b.count b.index b.replica events outputs a.replica
  pub executed : ExecutesDue b a
  pub taken : TakesAll takes before (sends_of outputs) after

-- The replica is as it is after some first of these events, each of which made its step or was left out.
abbrev pub ComesBySome : {D J : Type 0} → List (Event OpValue) → (before after : NodeValue D J) → Type 0
ComesBySome events b a = MakesSome b.count b.index b.replica events a.replica

-- What refused events leave of the node: for want of memory all as it was; where its device or its journal failed it
-- has stopped, executed nothing, and its replica is as it is after some first of the events; a node that had stopped is
-- as it was.
abbrev pub IsLeftBy : {D J : Type 0} → List (Event OpValue) → NodeError → (before after : NodeValue D J) → Type 0
IsLeftBy events error.NoMemory b a = a ≡ b
IsLeftBy events (error.Store e) b a = (a.is_halted ≡ true) × (a.executed ≡ b.executed) × ComesBySome events b a
IsLeftBy events (error.Journal e) b a = (a.is_halted ≡ true) × (a.executed ≡ b.executed) × (a.device ≡ b.device)
    × ComesBySome events b a
IsLeftBy events error.ForeignJournal b a = ⊥
IsLeftBy events error.StaleJournal b a = ⊥
IsLeftBy events error.Halted b a = (b.is_halted ≡ true) × (a ≡ b)

-- The node refused events, and nothing was handed over.
pub record HasRefused {P D J : Type 0} (events : List (Event OpValue)) (e : NodeError) (b a : NodeValue D J)
    (before after : P) : Type 0 where
  pub left : IsLeftBy events e b a
  pub nothing : after ≡ before

-- what is due, as an event, if anything is
abbrev pub event_of : Due → Option (Event OpValue)
event_of due.Nothing = None
event_of due.Beat = Some kind.Beat
event_of due.Suspect = Some kind.Suspect

-- The node made its step at this event, or refused it; where there is none, it is as it was, and nothing was handed
-- over.
abbrev pub HasActed : {P D J A : Type 0} → (P → ℕ → PeerMessage OpValue → P → Type 0) → Option (Event OpValue) →
    Result A NodeError
    → (b a : NodeValue D J) → (before after : P) → Type 0
HasActed takes None done b a before after = (a ≡ b) × (after ≡ before)
HasActed takes (Some e) (Ok x) b a before after = HasStepped takes e b a before after
HasActed takes (Some e) (Err f) b a before after = HasRefused (e ∷ []) f b a before after

-- These messages are what a beat of the node of this identity sends, in some state of its replica.
abbrev pub IsBeatOf : NodeIdentity → List (Send OpValue) → Type 0
IsBeatOf own sends = ∥ ((r : State OpValue) × (sends ≡ (step own.count own.index r kind.Beat).sends)) ∥₁
