-- What an event makes of a node that threads share.
use Rattle.std.specs.Prelude.{◌≡◌, Bool, false, length}
use Rattle.dir_node.specs.dir_store.ldap_op.Values.{OpValue}
use Rattle.dir_node.specs.state_machine.Executing.{due_after}
use Rattle.dir_node.specs.vr_state.declared.event.Event.{Event}
use Rattle.dir_node.specs.vr_state.Step.{step}
use Rattle.dir_node.specs.declared.config.Handled.{Handled}
use Rattle.dir_node.specs.NodeState.{NodeValue, CatchesUp, IsSameNode, given}
use Rattle.dir_seats.specs.Showing.{Showing}
use Rattle.node_gate.specs.private.Given.{HasAll}

-- The node made its step and gave out what that sends and answers; what is committed is executed, unless it is behind
-- for want of memory; and where neither that nor showing wanted memory, the seats see all that is executed.
pub record HasHandled {D J : Type 0} (old : NodeValue D J) (event : Event OpValue) (handled : Handled)
    (new : NodeValue D J) (shown : Showing) : Type 0 where
  pub step_is : given new.replica handled.outputs ≡ step old.count old.index old.replica event
  pub late : Bool
  pub executed : CatchesUp late old.executed.records (due_after (length old.executed.records)
      new.replica.commit_number new.replica.log) new.executed.records
  pub same : IsSameNode old new
  pub in_time : handled.behind ≡ false → late ≡ false
  pub seen : handled.behind ≡ false → HasAll new.executed shown

-- What is committed is executed, unless it is behind for want of memory, and nothing else of the node changes; and
-- where neither that nor showing wanted memory, the seats see all that is executed.
pub record HasExecuted {D J : Type 0} (old : NodeValue D J) (behind : Bool) (new : NodeValue D J) (shown : Showing) :
    Type 0 where
  pub late : Bool
  pub executed : CatchesUp late old.executed.records (due_after (length old.executed.records)
      old.replica.commit_number old.replica.log) new.executed.records
  pub nothing_else : new ≡ record old { executed = new.executed }
  pub in_time : behind ≡ false → late ≡ false
  pub seen : behind ≡ false → HasAll new.executed shown
