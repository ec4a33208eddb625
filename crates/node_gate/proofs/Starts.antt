-- A node that was opened is as its start made it, but for what it has executed.
use Rattle.std.proofs.Common.{◌≡◌, ℕ, List, Bool, length, sym, ap, subst, ◌∙◌}
use Rattle.dir_node.specs.dir_store.ldap_op.Values.{OpValue}
use Rattle.dir_node.specs.state_machine.Executing.{ExecutedValue, due_after}
use Rattle.dir_node.specs.vr_state.State.{State}
use Rattle.dir_node.specs.declared.config.NodeConfig.{NodeConfig}
use Rattle.dir_node.specs.vr_state.declared.message.Outputs.{Outputs}
use Rattle.dir_node.specs.view_store.Slots.{Finding}
use Rattle.dir_node.specs.NodeState.{CatchesUp, IsMade, NodeValue, nothing_executed}
use Rattle.dir_node.specs.Restarting.{IsRestarted}
use Rattle.dir_seats.specs.Showing.{Showing}
use Rattle.node_gate.specs.Moved.{ExecutesDue}
use Rattle.node_gate.specs.Starting.{as_made}
use Rattle.node_gate.specs.private.Handled.{HasExecuted}
use Rattle.node_gate.proofs.Sent.{executed_by}

-- before it executed anything
pub as_was : {D J : Type 0} (config : NodeConfig) (started old new : NodeValue D J) → old ≡ started →
    new ≡ record old { executed = new.executed }
    → started.executed ≡ nothing_executed config → as_made config new ≡ started
as_was {D} {J} config started old new is kept nothing =
    ap (as_made config) kept ∙ ap (λ (n : NodeValue D J). as_made config n) is
    ∙ ap (λ (x : ExecutedValue). record started { executed = x }) (sym nothing)

-- and what it executed is what is committed
pub executed_due : {D J : Type 0} (config : NodeConfig) (started old new : NodeValue D J) (behind : Bool)
    (shown : Showing) → old ≡ started
    → HasExecuted old behind new shown → started.executed ≡ nothing_executed config → ExecutesDue (as_made config new)
    new
executed_due {D} {J} config started old new behind shown is has nothing =
    let same : new.replica ≡ old.replica = ap (λ (n : NodeValue D J). n.replica) has.nothing_else in
    subst (λ (n : NodeValue D J). ExecutesDue n new) (is ∙ sym (as_was config started old new is has.nothing_else
    nothing))
    (executed_by old new has.late
    (subst (λ (r : State OpValue). CatchesUp has.late old.executed.records (due_after (length old.executed.records)
    r.commit_number r.log) new.executed.records) (sym same) has.executed))

-- so what the start made of it, it is
pub made_as : {D J : Type 0} (config : NodeConfig) (started old new : NodeValue D J) (r : State OpValue)
    (restarts : ℕ) → old ≡ started
    → new ≡ record old { executed = new.executed } → started.executed ≡ nothing_executed config →
    IsMade config r restarts started → IsMade config r restarts (as_made config new)
made_as {D} {J} config started old new r restarts is kept nothing made =
    subst (λ (n : NodeValue D J). IsMade config r restarts n) (sym (as_was config started old new is kept nothing)) made

pub restarted_as : {D J : Type 0} (config : NodeConfig) (started old new : NodeValue D J) (finding : Finding)
    (strings : List (List ℕ)) (out : Outputs OpValue) → old ≡ started
    → new ≡ record old { executed = new.executed } → started.executed ≡ nothing_executed config →
    IsRestarted config finding strings started out
    → IsRestarted config finding strings (as_made config new) out
restarted_as {D} {J} config started old new finding strings out is kept nothing made =
    subst (λ (n : NodeValue D J). IsRestarted config finding strings n out)
    (sym (as_was config started old new is kept nothing)) made
