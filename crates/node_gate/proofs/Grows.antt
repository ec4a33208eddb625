-- An event at a node: what was executed before is a beginning of what is after.
use Rattle.std.proofs.Common.{◌≡◌, ◌⊎◌, inl, inr, ℕ, List, [], ◌∷◌, Bool, Result, Ok, Err, IfErr, IfOk, IsErrOf, true, refl, ap}
use Rattle.std.specs.declared.alloc.AllocError.{AllocError}
use Rattle.dir_node.specs.vr_state.Outcome.{Outcome}
use Rattle.dir_node.specs.vr_state.State.{State}
use Rattle.dir_node.specs.vr_state.Step.{step as step_of}
use Rattle.dir_node.specs.vr_state.Words.{LogEntry}
use Rattle.dir_node.specs.vr_state.declared.event.Event.{Event}
use Rattle.dir_node.specs.vr_state.declared.message.Outputs.{Outputs}
use Rattle.dir_node.specs.Handling.{MakesSteps}
use Rattle.dir_node.specs.log_journal.Taken.{MakesSome}
use Rattle.dir_node.specs.dir_store.ldap_op.Values.{OpValue}
use Rattle.dir_node.specs.declared.error.NodeError.{NodeError}
use Rattle.dir_node.specs.declared.error.NodeError.TheVariants as error
use Rattle.dir_node.specs.log_journal.declared.error.NoteError.{NoteError}
use Rattle.dir_node.specs.view_store.declared.fault.ViewStoreError.{ViewStoreError}
use Rattle.dir_node.specs.NodeState.{CatchesUp, IsSameNode, NodeValue}
use Rattle.dir_seats.specs.Lists.{IsBeginning}
use Rattle.node_gate.specs.Moved.{ComesBySome, IsLeftBy}
use Rattle.node_gate.proofs.Given.{grown, stayed}

pub begins : {D J H : Type 0} (behind : H → Bool) (old new : NodeValue D J) (due : List (LogEntry OpValue))
    (r : Result H NodeError)
    → IfOk r (λ h. CatchesUp (behind h) old.executed.records due new.executed.records) → IsSameNode old new
    → (IsErrOf r error.NoMemory → new.executed ≡ old.executed) → (IsErrOf r error.Halted → new ≡ old)
    → ((e : ViewStoreError) → IsErrOf r (error.Store e) → (new.is_halted ≡ true) × (new.executed ≡ old.executed))
    → ((e : NoteError) → IsErrOf r (error.Journal e) → (new.is_halted ≡ true) × (new.executed ≡ old.executed)
    × (new.device ≡ old.device))
    → (IsErrOf r error.ForeignJournal → ⊥) → (IsErrOf r error.StaleJournal → ⊥)
    → IsBeginning old.executed new.executed
begins behind old new due (Ok h) p same no-memory halted stops logs foreign stale = grown old.executed new.executed
    (behind h) due p same.schema same.suffix same.indexes
begins behind old new due (Err error.NoMemory) p same no-memory halted stops logs foreign stale = stayed old.executed
    new.executed (no-memory refl)
begins behind old new due (Err error.Halted) p same no-memory halted stops logs foreign stale = stayed old.executed
    new.executed (ap (λ n. n.executed) (halted refl))
begins behind old new due (Err (error.Store e)) p same no-memory halted stops logs foreign stale = stayed old.executed
    new.executed (stops e refl).1
begins behind old new due (Err (error.Journal e)) p same no-memory halted stops logs foreign stale =
    stayed old.executed new.executed (logs e refl).1
begins behind old new due (Err error.ForeignJournal) p same no-memory halted stops logs foreign stale =
    absurd (foreign refl)
begins behind old new due (Err error.StaleJournal) p same no-memory halted stops logs foreign stale =
    absurd (stale refl)

-- Events that made their steps, or were left out, are some first of themselves.
pub some_of_steps : (n i : ℕ) (r s : State OpValue) (es : List (Event OpValue))
    (xs : List (Result (Outputs OpValue) AllocError)) → MakesSteps n i r es xs s → MakesSome n i r es s
some_of_steps n i r s [] [] h = h
some_of_steps n i r s [] (x ∷ xs) h = absurd h
some_of_steps n i r s (e ∷ es) [] h = absurd h
some_of_steps n i r s (e ∷ es) (Ok out ∷ xs) (t, step, more) =
    inr (t, inr (ap (λ (o : Outcome OpValue). o.state) step), some_of_steps n i t s es xs more)
some_of_steps n i r s (e ∷ es) (Err x ∷ xs) h = inr (r, inl refl, some_of_steps n i r s es xs h)

-- One event that made its step.
pub only_step : (n i : ℕ) (r s : State OpValue) (e : Event OpValue) → s ≡ (step_of n i r e).state →
    MakesSome n i r (e ∷ []) s
only_step n i r s e h = inr (s, inr h, refl)

-- what each refusal leaves of the node
pub left : {D J H : Type 0} (old new : NodeValue D J) (es : List (Event OpValue)) (r : Result H NodeError)
    → (IsErrOf r error.NoMemory → new ≡ old)
    → (IsErrOf r error.Halted → old.is_halted ≡ true) → (IsErrOf r error.Halted → new ≡ old)
    → ((e : ViewStoreError) → IsErrOf r (error.Store e) → (new.is_halted ≡ true) × (new.executed ≡ old.executed))
    → ((e : NoteError) → IsErrOf r (error.Journal e) → (new.is_halted ≡ true) × (new.executed ≡ old.executed)
    × (new.device ≡ old.device))
    → (IsErrOf r error.ForeignJournal → ⊥) → (IsErrOf r error.StaleJournal → ⊥)
    → ((e : ViewStoreError) → IsErrOf r (error.Store e) → ComesBySome es old new) →
    ((e : NoteError) → IsErrOf r (error.Journal e) → ComesBySome es old new)
    → IfErr r (λ e. IsLeftBy es e old new)
left old new es (Ok h) no-memory stopped halted stops logs foreign stale late log-late = tt
left old new es (Err error.NoMemory) no-memory stopped halted stops logs foreign stale late log-late = no-memory refl
left old new es (Err error.Halted) no-memory stopped halted stops logs foreign stale late log-late =
    (stopped refl, halted refl)
left old new es (Err (error.Store e)) no-memory stopped halted stops logs foreign stale late log-late =
    ((stops e refl).0, (stops e refl).1, late e refl)
left old new es (Err (error.Journal e)) no-memory stopped halted stops logs foreign stale late log-late =
    ((logs e refl).0, (logs e refl).1, (logs e refl).2, log-late e refl)
left old new es (Err error.ForeignJournal) no-memory stopped halted stops logs foreign stale late log-late =
    absurd (foreign refl)
left old new es (Err error.StaleJournal) no-memory stopped halted stops logs foreign stale late log-late =
    absurd (stale refl)
