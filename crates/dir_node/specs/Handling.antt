-- What a batch of events makes of a replica.
use Rattle.std.specs.Prelude.{◌≡◌, ℕ, min, cond, nat_le, List, [], ◌∷◌, length, Result, Ok, Err}
use Rattle.std.specs.declared.alloc.AllocError.{AllocError}
use Rattle.state_machine.specs.dir_store.ldap_op.Values.{OpValue}
use Rattle.vr_state.specs.State.{State}
use Rattle.vr_state.specs.Step.{step}
use Rattle.vr_state.specs.declared.event.Event.{Event}
use Rattle.vr_state.specs.declared.message.Outputs.{Outputs}
use Rattle.dir_node.specs.NodeState.{given}

-- Each event makes its step, or is left out for want of memory, one after another: the replica comes from r to s.
abbrev pub MakesSteps : ℕ → ℕ → State OpValue → List (Event OpValue) → List (Result (Outputs OpValue) AllocError) →
    State OpValue → Type 0
MakesSteps n i r [] [] s = s ≡ r
MakesSteps n i r (e ∷ es) (Ok out ∷ xs) s = (t : State OpValue) × (given t out ≡ step n i r e)
    × MakesSteps n i t es xs s
MakesSteps n i r (e ∷ es) (Err x ∷ xs) s = MakesSteps n i r es xs s
MakesSteps n i r _ _ s = ⊥

-- how much of a log is still to be committed before sessions are served: as much as before, or all of a log that is
-- shorter; nothing once that much is committed
abbrev pub left_to_catch_up : ℕ → State OpValue → ℕ
left_to_catch_up before r = cond (nat_le (min before (length r.log)) r.commit_number) 0 (min before (length r.log))
