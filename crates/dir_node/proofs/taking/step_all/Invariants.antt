use Rattle.std.proofs.Common.{◌≡◌, ◌+◌, ◌≤◌, List, ◌++◌, length, Result}
use Rattle.std.specs.Prelude.{vec_capacity}
use Rattle.std.specs.declared.alloc.AllocError.{AllocError}
use Rattle.state_machine.specs.dir_store.ldap_op.Values.{OpValue}
use Rattle.vr_state.specs.State.{State}
use Rattle.vr_state.specs.Views.{state}
use Rattle.vr_state.specs.declared.message.Outputs.{Outputs}
use Rattle.dir_node.specs.Handling.{MakesSteps}
use Rattle.dir_node.proofs.taking.step_all.Given as goal

-- there is room for what the other events give; what they make of it, is made of all of them
abbrev pub invariant-loop-event : goal.invariant-loop-event
invariant-loop-event l =
    (l.replica.index ≡ l.fn.replica.index) × (l.replica.count ≡ l.fn.replica.count)
    × (length l.all.items + length l.event-iterator.rest.items ≤ vec_capacity l.all)
    × ((xs : List (Result (Outputs OpValue) AllocError)) (s : State OpValue) → MakesSteps l.fn.replica.count
    l.fn.replica.index (state l.replica) l.event-iterator.rest.items xs s →
    MakesSteps l.fn.replica.count l.fn.replica.index (state l.fn.replica) l.fn.events.items (l.all.items ++ xs) s)
