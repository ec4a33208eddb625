-- A node that was given events, as its own clauses say it.
use Rattle.std.proofs.Common.{◌≡◌, ◌≢◌, ◌⊎◌, ℕ, Bool, true, false, inl, inr, List, [], ◌∷◌, length, take, Option, Some, None, Vec, Result, Ok, Err, IsErrOf, refl, sym, ap, ◌∙◌, subst, true≢false}
use Rattle.std.specs.Global.{Global}
use Rattle.std.specs.declared.alloc.AllocError.{AllocError}
use Rattle.dir_node.specs.Handling.{MakesSteps}
use Rattle.dir_node.specs.Logged.{LeavesOnlyIn, TellsSome, device_in, head_of}
use Rattle.dir_node.specs.NodeState.{CatchesUp, IsSameNode, given, head, pair_of}
use Rattle.dir_node.specs.declared.error.NodeError.{NodeError}
use Rattle.dir_node.specs.declared.error.NodeError.TheVariants.{NoMemory, Store, Journal, ForeignJournal, StaleJournal, Halted}
use Rattle.dir_node.specs.log_journal.Taken.{MakesSome}
use Rattle.dir_node.specs.log_journal.Told.{Told}
use Rattle.journal.specs.Memory as journals
use Rattle.dir_node.specs.log_journal.declared.error.NoteError.{NoteError}
use Rattle.state_machine.specs.Executing.{due_after}
use Rattle.state_machine.specs.dir_store.ldap_op.Values.{OpValue}
use Rattle.view_store.specs.Device.{LeavesOnly}
use Rattle.view_store.specs.Memory.{LeftSince, MayLeave, MemoryModel}
use Rattle.view_store.specs.Slots.{IsWellPlaced, found, own}
use Rattle.view_store.specs.Store.{IsFormerOrNew}
use Rattle.view_store.specs.declared.fault.ViewStoreError.{ViewStoreError}
use Rattle.vr_state.specs.Journaled.{after_events}
use Rattle.vr_state.specs.State.{State}
use Rattle.vr_state.specs.Step.{step}
use Rattle.vr_state.specs.declared.event.Event.{Event}
use Rattle.vr_state.specs.declared.message.Outputs.{Outputs}
use Rattle.dir_machine.proofs.Journals.{IsLeftWith, left_some, left_tells, log_now, taken_some}
use Rattle.dir_machine.proofs.Opened.{left_now, placed_now}
use Rattle.dir_machine.specs.private.Processes.{EndedInside, HeldPlaced, IsGiven, IsLeftOf, IsStopped, KeepsIt, LogsIt, MemoryNode, TellsIn, Took}
use Rattle.dir_machine.specs.declared.events.Fates.{Fates}
use Rattle.dir_machine.specs.declared.process.Left.{Left}
use Rattle.dir_machine.specs.declared.process.Process.{Process}
use Rattle.dir_machine.specs.declared.process.Process.TheVariants.{Up, Down}
use Rattle.dir_machine.specs.declared.replies.MachineReply.{MachineReply}
use Rattle.dir_machine.specs.declared.replies.MachineReply.TheVariants as reply

-- At each moment of a call the device may leave the pair from before it, or the one with this view.
abbrev pub LeavesPair : (old new : MemoryNode) (view : ℕ) → Type 0
LeavesPair old new view = LeavesOnly (λ (d : MemoryModel). length d.events) (λ (d : MemoryModel). LeftSince d.base
    d.events) old.device new.device
    (IsFormerOrNew old.cluster (own (pair_of old)) (record (pair_of old) { view = view }))

-- One event that was handled.
pub one_took : (e : Event OpValue) (old new : MemoryNode) (out : Outputs OpValue) (behind : Bool)
    (outs : List (Result (Outputs OpValue) AllocError)) → outs ≡ Ok out ∷ []
    → given new.replica out ≡ step old.count old.index old.replica e
    → CatchesUp behind old.executed.records (due_after (length old.executed.records) new.replica.commit_number
    new.replica.log) new.executed.records
    → KeepsIt new → LogsIt new → new.is_halted ≡ false → IsSameNode old new
    → (old.is_halted ≡ false → HeldPlaced old.device → LeavesPair old new (step old.count old.index old.replica
    e).state.view_number) → (HeldPlaced old.device → HeldPlaced new.device)
    → Took (e ∷ []) old new outs behind
one_took e old new out behind outs outs_is made executed pair log running same any placed = record {
  steps = subst (λ (l : List (Result (Outputs OpValue) AllocError)). MakesSteps old.count old.index old.replica
      (e ∷ []) l new.replica) (sym outs_is) (new.replica, made, refl);
  executed = executed;
  pair = pair;
  log = log;
  running = running;
  same = same;
  placed = λ runs h. placed_now old.device new.device old.cluster (own (pair_of old))
      (record (pair_of old) { view = (step old.count old.index old.replica e).state.view_number }) (placed h)
      (any runs h);
}

-- A batch that was handled.
pub all_took : (es : List (Event OpValue)) (old new : MemoryNode) (behind : Bool)
    (outs : List (Result (Outputs OpValue) AllocError))
    → MakesSteps old.count old.index old.replica es outs new.replica
    → CatchesUp behind old.executed.records (due_after (length old.executed.records) new.replica.commit_number
    new.replica.log) new.executed.records
    → KeepsIt new → LogsIt new → new.is_halted ≡ false → IsSameNode old new
    → (old.is_halted ≡ false → HeldPlaced old.device → LeavesPair old new new.replica.view_number) →
    (HeldPlaced old.device → HeldPlaced new.device)
    → Took es old new outs behind
all_took es old new behind outs made executed pair log running same any placed = record {
  steps = made;
  executed = executed;
  pair = pair;
  log = log;
  running = running;
  same = same;
  placed = λ runs h. placed_now old.device new.device old.cluster (own (pair_of old))
      (record (pair_of old) { view = new.replica.view_number }) (placed h) (any runs h);
}

-- So many events make none of their steps.
none_made : (n i : ℕ) (r : State OpValue) (es : List (Event OpValue)) → MakesSome n i r es r
none_made n i r [] = refl
none_made n i r (e ∷ es) = inl refl

-- the same node's journal has one head
head_same : (old new : MemoryNode) → IsSameNode old new → head new ≡ head old
head_same old new same =
    ap (λ (k : ℕ). head_of k new.index new.count new.restarts) same.cluster
    ∙ ap (λ (k : ℕ). head_of old.cluster k new.count new.restarts) same.index
    ∙ ap (λ (k : ℕ). head_of old.cluster old.index k new.restarts) same.count
    ∙ ap (λ (k : ℕ). head_of old.cluster old.index old.count k) same.restarts

-- one error, of a call
same_error : {T : Type 0} (a b : NodeError) → a ≡ b → IsErrOf {T = T} (Err a) b
same_error {T} a b is = subst (λ (x : NodeError). IsErrOf {T = T} (Err a) x) is refl

-- A call that stops, by its error, what its clauses say.
pub record Stops (T : Type 0) (es : List (Event OpValue)) (old new : MemoryNode) (view : ℕ) (error : NodeError) :
    Type 0 where
  pub other : error ≢ NoMemory
  pub same : IsSameNode old new
  pub any : old.is_halted ≡ false → HeldPlaced old.device → LeavesPair old new view
  pub any_log : old.is_halted ≡ false → LeavesOnlyIn (λ (j : journals.MemoryModel). length j.events)
      (λ (j : journals.MemoryModel). journals.LeftSince j.base j.events) (device_in old.journal) (device_in new.journal)
      (TellsSome (head old) old.count old.index old.replica es)
  pub store : (e : ViewStoreError) → IsErrOf {T = T} (Err error) (Store e) → MakesSome old.count old.index old.replica
      es new.replica × (view ≡ new.replica.view_number) × LogsIt new
  pub log : (e : NoteError) → IsErrOf {T = T} (Err error) (Journal e) → new.device ≡ old.device
  pub halted : IsErrOf {T = T} (Err error) Halted → old.is_halted ≡ true
  pub foreign : IsErrOf {T = T} (Err error) ForeignJournal → ⊥
  pub stale : IsErrOf {T = T} (Err error) StaleJournal → ⊥

module _ {T : Type 0} (es : List (Event OpValue)) (old new : MemoryNode) (view : ℕ) (left : Left)
    (of : IsLeftOf new left) (runs : old.is_halted ≡ false) (held : HeldPlaced old.device) (keeps : KeepsIt old) where
  -- where the pair could not be stored
  stopped_store : (error : NodeError) → Stops T es old new view error → (e : ViewStoreError) → error ≡ Store e →
      EndedInside es old left
  stopped_store error stops e is = record {
    replica = new.replica;
    steps = made.0;
    pair = go pair.pair;
    placed = pair.placed;
    journaled = left_some new.journal left.journal of.journal ∙ stops.same.journaled;
    log = subst (λ (t : Told). TellsIn t new.replica left.journal) (head_same old new stops.same)
        (left_tells new made.2 left.journal of.journal);
  }
    where
      made : MakesSome old.count old.index old.replica es new.replica × (view ≡ new.replica.view_number) × LogsIt new
      made = stops.store e (same_error error _ is)

      pair : IsFormerOrNew old.cluster (own (pair_of old)) (record (pair_of old) { view = view }) left.image.items
      pair = left_now old.device new.device (IsFormerOrNew old.cluster (own (pair_of old))
          (record (pair_of old) { view = view })) (stops.any runs held) left.image.items of.image

      go : (found old.cluster left.image.items ≡ own (pair_of old))
          ⊎ (found old.cluster left.image.items ≡ own (record (pair_of old) { view = view }))
          → (found old.cluster left.image.items ≡ own (pair_of old))
          ⊎ (found old.cluster left.image.items ≡ own (record (pair_of old) { view = new.replica.view_number }))
      go (inl former) = inl former
      go (inr after) = inr (after ∙ ap (λ (k : ℕ). own (record (pair_of old) { view = k })) made.1)

  -- where the journal could not be written
  stopped_log : (error : NodeError) → Stops T es old new view error → (e : NoteError) → error ≡ Journal e →
      EndedInside es old left
  stopped_log error stops e is = go left.journal refl (log_now (device_in old.journal) (device_in new.journal)
      (TellsSome (head old) old.count old.index old.replica es) (stops.any_log runs) left.journal of.journal)
    where
      former : found old.cluster left.image.items ≡ own (pair_of old)
      former = keeps left.image.items (subst (λ (d : MemoryModel). MayLeave d.base d.events left.image.items)
          (stops.log e (same_error error _ is)) of.image)

      placed : IsWellPlaced left.image.items
      placed = (left_now old.device new.device (IsFormerOrNew old.cluster (own (pair_of old))
          (record (pair_of old) { view = view })) (stops.any runs held) left.image.items of.image).placed

      go : (o : Option (Vec ℕ Global)) → left.journal ≡ o →
          IsLeftWith (TellsSome (head old) old.count old.index old.replica es) o → EndedInside es old left
      go None none h = record {
        replica = old.replica;
        steps = none_made old.count old.index old.replica es;
        pair = inl former;
        placed = placed;
        journaled = left_some new.journal left.journal of.journal ∙ stops.same.journaled;
        log = subst (λ (x : Option (Vec ℕ Global)). TellsIn (head old) old.replica x) (sym none) tt;
      }
      go (Some octets) some h = record {
        replica = after_events old.count old.index old.replica (take h.of.kept.count h.of.taken);
        steps = taken_some old.count old.index h.of.kept.count old.replica h.of.taken es h.of.some;
        pair = inl former;
        placed = placed;
        journaled = left_some new.journal left.journal of.journal ∙ stops.same.journaled;
        log = subst (λ (x : Option (Vec ℕ Global)). TellsIn (head old) (after_events old.count old.index old.replica
            (take h.of.kept.count h.of.taken)) x) (sym some)
            (record { kept = h.kept; tells = h.tells; of = h.of.kept.kept });
      }

  -- A process that ended inside a call.
  pub ended_in : (error : NodeError) → Stops T es old new view error → EndedInside es old left
  ended_in NoMemory stops = absurd (stops.other refl)
  ended_in (Store e) stops = stopped_store (Store e) stops e refl
  ended_in (Journal e) stops = stopped_log (Journal e) stops e refl
  ended_in ForeignJournal stops = absurd (stops.foreign refl)
  ended_in StaleJournal stops = absurd (stops.stale refl)
  ended_in Halted stops = absurd (true≢false (sym (stops.halted refl) ∙ runs))

-- A process that ended so, by what it is then and what is shown of it.
pub stopped_given : {T : Type 0} (i : ℕ) (es : List (Event OpValue)) (old new : MemoryNode) (f : Fates) (view : ℕ)
    (error : NodeError) (p : Process) (x : MachineReply) → IsStopped i new error p x
    → Stops T es old new view error → IsGiven i es (Up old f) p x
stopped_given i es old new f view error (Down left) (reply.Stopped j e) is stops = (
  is.0,
  (λ q. stops.other (sym is.1 ∙ q)),
  (λ runs held keeps. ended_in es old new view left is.2 runs held keeps
      error stops),
)
stopped_given i es old new f view error _ _ is stops = absurd is
