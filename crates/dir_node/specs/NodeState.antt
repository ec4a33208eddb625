-- A node as its callers see it, and what an event makes of it. Steps are defined in vr_state, pairs on a device in
-- view_store, what a journal tells in log_journal, what is executed in state_machine.
use Rattle.std.specs.Prelude.{◌≡◌, ◌⊎◌, ℕ, ◌+◌, ◌≤◌, ◌^◌, ◌++◌, List, [], Bool, true, false, Option, is_some}
use Rattle.std.specs.Arc.{arc_value}
use Rattle.state_machine.specs.dir_store.ldap_op.Values.{OpValue}
use Rattle.state_machine.specs.Executing.{ExecutedValue, IsFront}
use Rattle.log_journal.specs.journal.declared.journal.Journal.{Journal}
use Rattle.view_store.specs.declared.slot.Pair.{Pair}
use Rattle.view_store.specs.Slots.{Finding, nothing, foreign, own, found, taken_from, sequence_of}
use Rattle.view_store.specs.Store.{IsFormerOrNew}
use Rattle.vr_state.specs.declared.message.Outputs.{Outputs}
use Rattle.vr_state.specs.Words.{LogEntry}
use Rattle.vr_state.specs.Outcome as steps
use Rattle.vr_state.specs.State.{State}
use Rattle.log_journal.specs.Told.{Told}
use Rattle.dir_node.specs.Logged.{LeavesTold, head_of}
use Rattle.dir_node.specs.declared.config.NodeConfig.{NodeConfig}

-- a node: its place among the replicas, its cluster, the replica's state, what it has executed, the device of its pair,
-- its journal where it keeps one, how often it was started, whether it has stopped for good, and how much is to be
-- committed before sessions are served
pub record NodeValue (D J : Type 0) : Type 0 where
  pub index : ℕ
  pub count : ℕ
  pub cluster : ℕ
  pub replica : State OpValue
  pub executed : ExecutedValue
  pub device : D
  pub journal : Option (Journal J)
  pub restarts : ℕ
  pub is_halted : Bool
  pub catch_up : ℕ

-- the pair of a node: what a crash is to leave
abbrev pub pair_of : {D J : Type 0} → NodeValue D J → Pair
pair_of n = record { view = n.replica.view_number; restarts = n.restarts; journaled = is_some n.journal }

-- what the journal of a node tells beside its replica
abbrev pub head : {D J : Type 0} → NodeValue D J → Told
head n = head_of n.cluster n.index n.count n.restarts

-- Every crash of the device leaves the pair of the replica's view and the restarts.
abbrev pub KeepsPair : {D J : Type 0} → (D → List ℕ → Type 0) → NodeValue D J → Type 0
KeepsPair may_leave n = (image : List ℕ) → may_leave n.device image → found n.cluster image ≡ own (pair_of n)

-- Every crash of the journal's device, where there is one, leaves a journal of this node: its restarts, and the
-- replica's view, last normal view and log, all of it.
abbrev pub KeepsLog : {D J : Type 0} → (J → List ℕ → Type 0) → NodeValue D J → Type 0
KeepsLog may_leave n = LeavesTold may_leave n.journal (head n) n.replica

-- A view can't be stored: it is past the greatest number, or the sequence of pairs on the device is at its end.
abbrev pub CannotStore : ℕ → List ℕ → Type 0
CannotStore view image = (2 ^ 63 ≤ view) ⊎ (2 ^ 63 ≤ sequence_of (taken_from image) + 1)

-- a state and what is handed out, as the outcome of a step
abbrev pub given : State OpValue → Outputs OpValue → steps.Outcome OpValue
given r out = record { state = r; sends = out.sends.items; replies = out.replies.items }

-- What is executed grows by the records that are due: by all of them, or, where the node is behind, by a front that
-- leaves some.
abbrev pub CatchesUp : Bool → (old due new : List (LogEntry OpValue)) → Type 0
CatchesUp false old due new = new ≡ old ++ due
CatchesUp true old due new = IsFront old due new

-- What no event changes.
pub record IsSameNode {D J : Type 0} (old new : NodeValue D J) : Type 0 where
  pub index : new.index ≡ old.index
  pub count : new.count ≡ old.count
  pub cluster : new.cluster ≡ old.cluster
  pub schema : new.executed.schema ≡ old.executed.schema
  pub suffix : new.executed.suffix ≡ old.executed.suffix
  pub indexes : new.executed.indexes ≡ old.executed.indexes
  pub restarts : new.restarts ≡ old.restarts
  pub journaled : is_some new.journal ≡ is_some old.journal

-- nothing executed yet, over a configuration's schema, root and indexes
abbrev pub nothing_executed : NodeConfig → ExecutedValue
nothing_executed config = record {
  schema = arc_value config.schema;
  suffix = config.suffix;
  indexes = config.indexes;
  records = [];
}

-- A node as it is made of a configuration: this state of its replica, nothing executed, so many restarts.
pub record IsMade {D J : Type 0} (config : NodeConfig) (r : State OpValue) (restarts : ℕ) (n : NodeValue D J) :
    Type 0 where
  pub index_is : n.index ≡ config.index
  pub count_is : n.count ≡ config.count
  pub cluster_is : n.cluster ≡ config.cluster
  pub replica_is : n.replica ≡ r
  pub executed_is : n.executed ≡ nothing_executed config
  pub restarts_is : n.restarts ≡ restarts
  pub runs : n.is_halted ≡ false

-- A pair of the cluster's own was found, that no journal goes with.
abbrev pub IsOwn : Finding → Type 0
IsOwn nothing = ⊥
IsOwn foreign = ⊥
IsOwn (own pair) = pair.journaled ≡ false

-- A pair of the cluster's own was found, and a journal goes with it.
abbrev pub IsJournaled : Finding → Type 0
IsJournaled nothing = ⊥
IsJournaled foreign = ⊥
IsJournaled (own pair) = pair.journaled ≡ true

-- the pair that a start without a journal leaves in the place of the one that is found: the same view, one restart more
abbrev pub started_pair : Finding → Pair
started_pair nothing = record { view = 0; restarts = 0; journaled = false }
started_pair foreign = record { view = 0; restarts = 0; journaled = false }
started_pair (own p) = record { view = p.view; restarts = p.restarts + 1; journaled = false }

-- A start may leave what the device might have left before, or one of the two pairs.
abbrev pub StartLeaves : {D : Type 0} → (D → List ℕ) → (D → List ℕ → Type 0) → ℕ → D → List ℕ → Type 0
StartLeaves seen may_leave cluster device image =
    may_leave device image ⊎ IsFormerOrNew cluster (found cluster (seen device))
    (started_pair (found cluster (seen device))) image

-- A pair has no next start: none of the cluster's was found, the restarts are at the greatest number, or the sequence
-- of pairs is at its end.
abbrev pub CannotStart : ℕ → List ℕ → Type 0
CannotStart cluster image =
    (found cluster image ≡ nothing) ⊎ (2 ^ 63 ≤ (started_pair (found cluster image)).restarts)
    ⊎ (2 ^ 63 ≤ sequence_of (taken_from image) + 1)
