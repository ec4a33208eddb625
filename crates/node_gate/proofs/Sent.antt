-- What a step sends is what was handed over.
use Rattle.std.proofs.Common.{◌≡◌, ℕ, List, ◌++◌, Bool, true, false, length, Result, subst, sym, ap, inl, inr}
use Rattle.std.specs.declared.alloc.AllocError.{AllocError}
use Rattle.dir_node.specs.dir_store.ldap_op.Values.{OpValue}
use Rattle.dir_node.specs.state_machine.Executing.{due_after}
use Rattle.dir_node.specs.vr_state.Outcome as steps
use Rattle.dir_node.specs.vr_state.declared.event.Event.{Event}
use Rattle.dir_node.specs.vr_state.declared.message.PeerMessage.{PeerMessage}
use Rattle.dir_node.specs.vr_state.declared.message.Outputs.{Outputs}
use Rattle.dir_node.specs.vr_state.declared.message.Send.{Send}
use Rattle.dir_node.specs.Handling.{MakesSteps}
use Rattle.dir_node.specs.declared.config.AllHandled.{AllHandled}
use Rattle.dir_node.specs.declared.config.Handled.{Handled}
use Rattle.dir_node.specs.NodeState.{NodeValue, CatchesUp}
use Rattle.dir_seats.specs.Showing.{Showing}
use Rattle.node_gate.specs.Batches.{sends_of}
use Rattle.node_gate.specs.Moved.{ExecutesDue, HasStepped, HasSteppedAll}
use Rattle.node_gate.specs.private.Batches.{HasHandledAll}
use Rattle.node_gate.specs.private.Handled.{HasHandled}
use Rattle.node_gate.specs.Sent.{TakesAll, none, next}

-- what is committed is executed, whether or not the node is behind
pub executed_by : {D J : Type 0} (old new : NodeValue D J) (late : Bool)
    → CatchesUp late old.executed.records (due_after (length old.executed.records) new.replica.commit_number
    new.replica.log) new.executed.records → ExecutesDue old new
executed_by old new false p = inl p
executed_by old new true p = inr p

pub stepped : {P D J : Type 0} (takes : P → ℕ → PeerMessage OpValue → P → Type 0) (old new : NodeValue D J)
    (event : Event OpValue) (h : Handled) (shown : Showing)
    (before after : P) → HasHandled old event h new shown → TakesAll takes before h.outputs.sends.items after →
    HasStepped takes event old new before after
stepped takes old new event h shown before after has taken =
    record {
      replica = ap (λ (o : steps.Outcome OpValue). o.state) has.step_is;
      executed = executed_by old new has.late has.executed;
      taken = subst (λ (o : steps.Outcome OpValue). TakesAll takes before o.sends after) has.step_is taken;
    }

pub stepped_all : {P D J : Type 0} (takes : P → ℕ → PeerMessage OpValue → P → Type 0) (old new : NodeValue D J)
    (events : List (Event OpValue)) (h : AllHandled) (shown : Showing)
    (outputs : List (Result (Outputs OpValue) AllocError)) (before after : P) → HasHandledAll old events h new shown →
    outputs ≡ h.outputs.items
    → TakesAll takes before (sends_of h.outputs.items) after → HasSteppedAll takes events outputs old new before after
stepped_all takes old new events h shown outputs before after has is taken =
    record {
      steps_are = subst (λ (xs : List (Result (Outputs OpValue) AllocError)). MakesSteps old.count old.index
          old.replica events xs new.replica) (sym is) has.steps_are;
      executed = executed_by old new has.late has.executed;
      taken = subst (λ (xs : List (Result (Outputs OpValue) AllocError)). TakesAll takes before (sends_of xs) after)
          (sym is) taken;
    }

-- What is taken, and then what is taken after it.
pub takes_joined : {P : Type 0} (takes : P → ℕ → PeerMessage OpValue → P → Type 0) {p q r : P}
    {xs ys : List (Send OpValue)}
    → TakesAll takes p xs q → TakesAll takes q ys r → TakesAll takes p (xs ++ ys) r
takes_joined takes none more = more
takes_joined takes (next send one rest) more = next send one (takes_joined takes rest more)
