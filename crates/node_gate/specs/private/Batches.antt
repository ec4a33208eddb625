-- What a batch of events makes of a node that threads share, and what is handed over of it to the other replicas: what
-- contracts that aren't public say of it. What public contracts say is in specs/Batches.
use Rattle.std.specs.Prelude.{◌≡◌, ℕ, Bool, false, List, length, Option, Some, None, slice_get}
use Rattle.dir_node.specs.dir_store.ldap_op.Values.{OpValue}
use Rattle.dir_node.specs.state_machine.Executing.{due_after}
use Rattle.dir_node.specs.vr_state.declared.event.Event.{Event}
use Rattle.dir_node.specs.vr_state.declared.event.Event.TheVariants.{Beat}
use Rattle.dir_node.specs.declared.config.AllHandled.{AllHandled}
use Rattle.dir_node.specs.Handling.{MakesSteps}
use Rattle.dir_node.specs.NodeState.{NodeValue, CatchesUp, IsSameNode}
use Rattle.dir_seats.specs.Showing.{Showing}
use Rattle.node_gate.specs.private.Given.{HasAll}

-- Each event made its step, or was left out for want of memory; what is committed is executed, unless it is behind for
-- want of memory; and where neither that nor showing wanted memory, the seats see all that is executed.
pub record HasHandledAll {D J : Type 0} (old : NodeValue D J) (events : List (Event OpValue)) (handled : AllHandled)
    (new : NodeValue D J) (shown : Showing) : Type 0 where
  pub steps_are : MakesSteps old.count old.index old.replica events handled.outputs.items new.replica
  pub late : Bool
  pub executed : CatchesUp late old.executed.records (due_after (length old.executed.records)
      new.replica.commit_number new.replica.log) new.executed.records
  pub same : IsSameNode old new
  pub in_time : handled.behind ≡ false → late ≡ false
  pub seen : handled.behind ≡ false → HasAll new.executed shown

-- The event at this place, if one is named, is a beat.
abbrev pub IsBeatAt : Option ℕ → List (Event OpValue) → Type 0
IsBeatAt None events = Unit {0}
IsBeatAt (Some place) events = slice_get events place ≡ Some Beat
