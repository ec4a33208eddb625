-- How a replica starts: for the first time in its life, or again from the pair that its device holds.
use Rattle.std.specs.Prelude.{ℕ, Bool, true, false, Option, Some, None}
use Rattle.dir_node.specs.dir_store.ldap_op.Values.{OpValue}
use Rattle.dir_node.specs.view_store.Slots.{Finding}
use Rattle.dir_node.specs.view_store.declared.slot.Pair.{Pair}
use Rattle.dir_node.specs.vr_state.Outcome.{Outcome, idle}
use Rattle.dir_node.specs.vr_state.State.{State, first, recovering}
use Rattle.dir_node.specs.vr_recover.Rules.{recovers}
use Rattle.dir_node.specs.declared.config.NodeConfig.{NodeConfig}
use Rattle.dir_node.specs.NodeState.{IsOwn, NodeValue, nothing_executed, started_pair}

-- the view and the restarts of a start: view 0 and one restart, or the view that was found and one restart more
abbrev pub pair_of_start : Bool → Finding → Pair
pair_of_start true finding = record { view = 0; restarts = 1; journaled = false }
pair_of_start false finding = started_pair finding

-- the replica after its start: normal in view 0, or recovering in the view that was found, with its restarts as its
-- nonce
abbrev pub state_of_start : Bool → ℕ → Finding → State OpValue
state_of_start true count finding = first count
state_of_start false count finding = recovering count (started_pair finding).view (started_pair finding).restarts

-- what a start sends: nothing, or what asks the others for their state
abbrev pub outcome_of_start : Bool → ℕ → ℕ → Finding → Outcome OpValue
outcome_of_start true count index finding = idle (first count)
outcome_of_start false count index finding = recovers count index (started_pair finding).view
    (started_pair finding).restarts

-- A start that no journal decides on: a first one, or one without a journal.
abbrev pub IsPlain : {J : Type 0} → Bool → Option J → Type 0
IsPlain true journal = Unit {0}
IsPlain false None = Unit {0}
IsPlain false (Some j) = ⊥

-- a node as its start made it, before it executed anything
abbrev pub as_made : {D J : Type 0} → NodeConfig → NodeValue D J → NodeValue D J
as_made config n = record n { executed = nothing_executed config }

-- A later start found a pair of the cluster's own.
abbrev pub MayStart : Bool → Finding → Type 0
MayStart true finding = Unit {0}
MayStart false finding = IsOwn finding
