use Rattle.std.proofs.Common.{◌≡◌, ◌+◌, ◌≤◌, List, ℕ, ◌++◌, length, Result}
use Rattle.std.specs.Prelude.{vec_capacity}
use Rattle.std.specs.declared.alloc.AllocError.{AllocError}
use Rattle.ldap_op.specs.Values.{OpValue}
use Rattle.vr_state.specs.State.{State}
use Rattle.vr_state.specs.Views.{state}
use Rattle.vr_state.specs.declared.message.Outputs.{Outputs}
use Rattle.log_journal.specs.Taken.{MakesSome, TakesAll}
use Rattle.log_journal.proofs.taking.take_events.Given as goal

-- there is room for what the other events give; what they make of it, is made of all of them
abbrev pub invariant-loop-event : goal.invariant-loop-event
invariant-loop-event l =
    (l.replica.index ≡ l.fn.replica.index) × (l.replica.count ≡ l.fn.replica.count)
    × (length l.all.items + length l.event-iterator.rest.items ≤ vec_capacity l.all)
    × ((xs : List (Result (Outputs OpValue) AllocError)) (s : State OpValue) (new : List (List ℕ)) →
    TakesAll l.fn.replica.count l.fn.replica.index (state l.replica) l.event-iterator.rest.items xs s l.batch new →
    TakesAll l.fn.replica.count l.fn.replica.index (state l.fn.replica) l.fn.events.items (l.all.items ++ xs) s
    l.fn.batch new)
    × ((s : State OpValue) → MakesSome l.fn.replica.count l.fn.replica.index (state l.replica)
    l.event-iterator.rest.items s → MakesSome l.fn.replica.count l.fn.replica.index (state l.fn.replica)
    l.fn.events.items s)
