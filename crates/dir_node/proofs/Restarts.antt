-- A later start over a journal.
use Rattle.std.proofs.Common.{◌≡◌, ◌⊎◌, ◌<◌, ◌≤◌, ◌+◌, ◌^◌, ℕ, true, Some, List, ◌++◌, inl, inr, Result, Ok, Err, IfErr, refl, sym, ap, ◌∙◌, subst, arith}
use Rattle.state_machine.specs.dir_store.ldap_op.Values.{OpValue}
use Rattle.log_journal.specs.Kept.{IsHeld, IsMemory}
use Rattle.log_journal.specs.Notes.{SpellAll}
use Rattle.log_journal.specs.journal.Device.{LeavesOnly as LogLeavesOnly}
use Rattle.log_journal.specs.journal.Frames.{recorded}
use Rattle.log_journal.specs.journal.Journal.{IsGrown}
use Rattle.log_journal.specs.journal.declared.journal.Journal.{Journal as Log}
use Rattle.log_journal.proofs.Along.{chained, weaker, started}
use Rattle.view_store.specs.Device.{LeavesOnly}
use Rattle.view_store.specs.Slots.{Finding, own, found, IsWellPlaced, sequence_of, taken_from}
use Rattle.view_store.specs.Store.{IsFormerOrNew}
use Rattle.view_store.specs.Stored.{Stored}
use Rattle.view_store.specs.declared.slot.Pair.{Pair}
use Rattle.view_store.proofs.Moments.{joined, weaker_fact}
use Rattle.vr_state.specs.Outcome as steps
use Rattle.vr_state.specs.State.{State}
use Rattle.vr_state.specs.Views.{state}
use Rattle.dir_node.specs.Logged.{ReadsAsBefore, head_of}
use Rattle.dir_node.specs.Restarting.{CannotRestart, IsRestart, Restart, RestartLeaves, RestartNotes}
use Rattle.dir_node.specs.private.NodeState.{Holds, IsRunning}
use Rattle.dir_node.specs.private.Ways.{IsMadeBy, IsStartedOver, IsWay, start_by}
use Rattle.dir_node.specs.declared.owner.Owner.{Owner}
use Rattle.dir_node.specs.declared.made.Made.{Made}
use Rattle.dir_node.specs.declared.way.Way.{Way}
use Rattle.dir_node.specs.declared.way.Way.TheVariants.{Begin, BeginAgain, Resume}
use Rattle.dir_node.specs.Faults.{IsEarly}
use Rattle.dir_node.specs.private.Faults.{IsClearFault, IsWriteFault}
use Rattle.dir_node.specs.declared.error.NodeError.{NodeError}
use Rattle.dir_node.specs.declared.error.NodeError.TheVariants.{NoMemory, Store, Journal, ForeignJournal, StaleJournal, Halted}
use Rattle.log_journal.specs.declared.error.NoteError.TheVariants as note
use Rattle.view_store.specs.declared.fault.ViewStoreError.TheVariants as view
use Rattle.dir_node.proofs.Bounds.{found_storable}
use Rattle.dir_node.proofs.Starts.{way_told, put_first, begun}

module _ {D : Type 0} (seen : D → List ℕ) (may_leave : D → List ℕ → Type 0) (moment : D → ℕ) (left_since : D → ℕ →
    List ℕ → Type 0) where
  -- the pair was read, and nothing else was done
  pub only_read : (old mid : D) (o : Owner) (strings : List (List ℕ)) → LeavesOnly moment left_since old mid
      (may_leave old) → LeavesOnly moment left_since old mid (RestartLeaves seen may_leave o old strings)
  only_read old mid o strings read = weaker_fact moment left_since old mid (may_leave old)
      (RestartLeaves seen may_leave o old strings) read (λ c h. inl h)

  -- the pair was read, and a start's was stored, or that failed
  pub restart_left : (old new : D) (mid : Stored D) (o : Owner) (pair : Pair) (strings : List (List ℕ))
      (start : Restart) (next : Pair) → mid.cluster ≡ o.cluster → found o.cluster (seen old) ≡ own pair →
      seen mid.device ≡ seen old
      → LeavesOnly moment left_since old mid.device (may_leave old) → IsRestart o pair strings start → next ≡ start.pair
      → (IsWellPlaced (seen mid.device) → LeavesOnly moment left_since mid.device new
      (IsFormerOrNew mid.cluster (found mid.cluster (seen mid.device)) next))
      → IsWellPlaced (seen old) → LeavesOnly moment left_since old new (RestartLeaves seen may_leave o old strings)
  restart_left old new mid o pair strings start next one is same read by next_is stored placed =
      joined moment left_since old mid.device new (RestartLeaves seen may_leave o old strings)
      (IsFormerOrNew mid.cluster (found mid.cluster (seen mid.device)) next)
      (only_read old mid.device o strings read) (stored (subst IsWellPlaced (sym same) placed))
      (λ c q. inr (
        pair,
        start,
        by,
        is,
        subst (λ (p : Pair). IsFormerOrNew o.cluster (found o.cluster (seen old)) p c) next_is
            (subst (λ (l : List ℕ). IsFormerOrNew o.cluster (found o.cluster l) next c) same
            (subst (λ (k : ℕ). IsFormerOrNew k (found k (seen mid.device)) next c) one q)),
      ))

module _ {J : Type 0} (seen : J → List ℕ) (may_leave : J → List ℕ → Type 0) (moment : J → ℕ) (left_since : J → ℕ →
    List ℕ → Type 0) where
  -- the journal wasn't called
  pub not_called : (j : J) → ((c : List ℕ) → left_since j (moment j) c → may_leave j c) →
      LogLeavesOnly moment left_since j j (ReadsAsBefore seen may_leave j)
  not_called j now = started moment left_since j (ReadsAsBefore seen may_leave j) (λ c left. inl (now c left))

  -- it was read alone
  pub read_alone : (old mid : J) (o : Owner) (finding : Finding) → LogLeavesOnly moment left_since old mid
      (ReadsAsBefore seen may_leave old) → LogLeavesOnly moment left_since old mid (RestartNotes seen may_leave o
      finding old)
  read_alone old mid o finding read = weaker moment left_since old mid (ReadsAsBefore seen may_leave old)
      (RestartNotes seen may_leave o finding old) (λ c h. inl h) read

  -- it was read, and a start's notes were settled, or that failed
  pub notes_left : (old mid new : J) (o : Owner) (finding : Finding) (pair : Pair) (start : Restart)
      (batch : List (List ℕ)) → finding ≡ own pair → IsRestart o pair (recorded (seen old)) start →
      SpellAll start.notes batch
      → recorded (seen mid) ≡ recorded (seen old) → LogLeavesOnly moment left_since old mid
      (ReadsAsBefore seen may_leave old) → LogLeavesOnly moment left_since mid new (IsGrown (recorded (seen mid))
      batch)
      → LogLeavesOnly moment left_since old new (RestartNotes seen may_leave o finding old)
  notes_left old mid new o finding pair start batch is by spelled same read grown =
      chained moment left_since old mid new (RestartNotes seen may_leave o finding old)
      (read_alone old mid o finding read)
      (weaker moment left_since mid new (IsGrown (recorded (seen mid)) batch) (RestartNotes seen may_leave o finding
      old)
      (λ c g. inr (
        pair,
        start,
        is,
        by,
        begun (recorded (seen old)) start.notes batch c spelled (subst
            (λ (l : List (List ℕ)). IsGrown l batch c) same g),
      )) grown)

  -- it was read, and what stands behind its strings was cleared, or that failed
  pub cleared_alone : (old mid new : J) → seen mid ≡ seen old → LogLeavesOnly moment left_since old mid
      (ReadsAsBefore seen may_leave old) → LogLeavesOnly moment left_since mid new (λ c. recorded c ≡
      recorded (seen mid))
      → LogLeavesOnly moment left_since old new (ReadsAsBefore seen may_leave old)
  cleared_alone old mid new same read cleared =
      chained moment left_since old mid new (ReadsAsBefore seen may_leave old) read
      (weaker moment left_since mid new (λ c. recorded c ≡ recorded (seen mid)) (ReadsAsBefore seen may_leave old)
      (λ c e. inr (e ∙ ap recorded same)) cleared)

-- After a start its journal tells its replica.
pub restart_told : (o : Owner) (pair : Pair) (old mid now : List (List ℕ)) (way : Way) (m : Made) →
    IsWay o pair old way → IsMadeBy o (start_by o pair way) m → mid ≡ old → now ≡ mid ++ m.batch
    → IsMemory (head_of o.cluster o.index o.count m.pair.restarts) (state m.replica) now
restart_told o pair old mid now way m is made same grown =
    let told = way_told o pair old m.batch way is (put_first (start_by o pair way).notes m.batch made.notes) in
    subst (λ (l : List (List ℕ)). IsMemory (head_of o.cluster o.index o.count m.pair.restarts) (state m.replica) l)
    (sym (grown ∙ ap (λ (l : List (List ℕ)). l ++ m.batch) same))
    (subst (λ (r : State OpValue). IsMemory (head_of o.cluster o.index o.count m.pair.restarts) r (old ++ m.batch))
    (sym (ap (λ (s : steps.Outcome OpValue). s.state) made.outcome_is))
    (subst (λ (p : Pair). IsMemory (head_of o.cluster o.index o.count p.restarts) (start_by o pair way).outcome.state
    (old ++ m.batch)) (sym made.pair) told))

-- A start's pair can be stored.
pub record Fits (p : Pair) : Type 0 where
  pub view_fits : p.view < 2 ^ 63
  pub restarts_fit : p.restarts < 2 ^ 63

way_fits : (o : Owner) (pair : Pair) (strings : List (List ℕ)) (way : Way) → IsWay o pair strings way →
    pair.view < 2 ^ 63 → pair.restarts + 2 < 2 ^ 63 → Fits (start_by o pair way).pair
way_fits o pair strings Begin is v r = record { view_fits = v; restarts_fit = r }
way_fits o pair strings BeginAgain is v r = record { view_fits = v; restarts_fit = r }
way_fits o pair strings (Resume told) (t, tells, (same, of, whole, together)) v r =
    record { view_fits = subst (λ u. u.kept.view < 2 ^ 63) (sym same) together.fits; restarts_fit = omega (arith, r) }

-- why a start's pair wasn't stored
pub why_no_restart : (o : Owner) (pair next : Pair) (strings : List (List ℕ)) (way : Way) (before now : List ℕ) →
    IsWay o pair strings way → next ≡ (start_by o pair way).pair → found o.cluster before ≡ own pair →
    pair.restarts + 2 < 2 ^ 63 → now ≡ before
    → (2 ^ 63 ≤ next.view) ⊎ (2 ^ 63 ≤ next.restarts) ⊎ (2 ^ 63 ≤ sequence_of (taken_from now) + 1) →
    CannotRestart o.cluster before
why_no_restart o pair next strings way before now is made found_is small same why =
    let fits = subst Fits (sym made) (way_fits o pair strings way is (found_storable o.cluster before pair
    found_is).view small) in
    elim why [
      | inl v ↦ absurd (omega (arith, v, fits.view_fits))
      | inr other ↦ elim other [
        | inl r ↦ absurd (omega (arith, r, fits.restarts_fit))
        | inr s ↦ inr (inl (subst (λ (l : List ℕ). 2 ^ 63 ≤ sequence_of (taken_from l) + 1) same s))
      ]
    ]

-- A refusal while writing isn't early.
pub not_early : (e : NodeError) → IsWriteFault e → IsEarly e → ⊥
not_early (Store view.DeviceFailed) w e = e
not_early (Store view.NoPair) w e = e
not_early (Store view.ForeignCluster) w e = w
not_early (Store view.KeepsJournal) w e = w
not_early (Store view.Failed) w e = w
not_early (Journal note.DeviceFailed) w e = e
not_early (Journal note.Full) w e = e
not_early (Journal note.NoMemory) w e = w
not_early (Journal note.Damaged) w e = w
not_early (Journal note.AnotherVersion) w e = w
not_early (Journal note.Unwritable) w e = w
not_early NoMemory w e = w
not_early ForeignJournal w e = w
not_early StaleJournal w e = w
not_early Halted w e = w

-- A refusal while clearing is early where it is want of memory.
pub early_clear : (e : NodeError) → IsClearFault e → IsEarly e → e ≡ NoMemory
early_clear NoMemory w e = refl
early_clear (Journal note.DeviceFailed) w e = absurd e
early_clear (Journal note.Full) w e = absurd w
early_clear (Journal note.NoMemory) w e = absurd w
early_clear (Journal note.Damaged) w e = absurd w
early_clear (Journal note.AnotherVersion) w e = absurd w
early_clear (Journal note.Unwritable) w e = absurd w
early_clear (Store f) w e = absurd w
early_clear ForeignJournal w e = absurd w
early_clear StaleJournal w e = absurd w
early_clear Halted w e = absurd w

-- a fact of whatever error there is
pub any_err : {T E : Type 0} (r : Result T E) (Q : E → Type 0) → ((e : E) → Q e) → IfErr r Q
any_err (Ok x) Q h = tt
any_err (Err e) Q h = h e

-- a fact of the error that there is
pub this_err : {T E : Type 0} (r : Result T E) (e : E) (Q : E → Type 0) → r ≡ Err e → Q e → IfErr r Q
this_err r e Q is h = subst (λ (x : Result _ _). IfErr x Q) (sym is) h

-- A start's pair is of its replica's view, and says that a journal goes with it.
pub restart_pair : (o : Owner) (pair : Pair) (strings : List (List ℕ)) (s : Restart) → IsRestart o pair strings s →
    s.pair ≡ record { view = s.outcome.state.view_number; restarts = s.pair.restarts; journaled = true }
restart_pair o pair strings s (inl b) = subst (λ (x : Restart). x.pair ≡ record {
  view = x.outcome.state.view_number;
  restarts = x.pair.restarts;
  journaled = true;
}) (sym b.is) refl
restart_pair o pair strings s (inr (inl b)) = subst (λ (x : Restart). x.pair ≡
    record { view = x.outcome.state.view_number; restarts = x.pair.restarts; journaled = true }) (sym b.is) refl
restart_pair o pair strings s (inr (inr b)) = subst (λ (x : Restart). x.pair ≡
    record { view = x.outcome.state.view_number; restarts = x.pair.restarts; journaled = true }) (sym b.is) refl

-- what lies in memory of a start has the pair of its replica
pub made_pair : (o : Owner) (finding : Finding) (strings : List (List ℕ)) (m : Made) → IsStartedOver o finding strings
    m → m.pair ≡ record { view = (state m.replica).view_number; restarts = m.pair.restarts; journaled = true }
made_pair o finding strings m h =
    let start : m.pair ≡ h.start.pair = h.made.pair in
    let view : (state m.replica).view_number ≡ h.start.outcome.state.view_number = ap (λ (s : steps.Outcome OpValue).
    s.state.view_number) h.made.outcome_is in
    start ∙ restart_pair o h.former strings h.start h.is
    ∙ (λ i. record {
      view = (sym view) i;
      restarts = (ap (λ (p : Pair). p.restarts) (sym start)) i;
      journaled =
          true;
    })

-- A node that starts over its journal runs.
pub starts_running : {D J : Type 0} (seen : D → List ℕ) (may_leave : D → List ℕ → Type 0) (log_seen : J → List ℕ)
    (log_may_leave : J → List ℕ → Type 0) (views : Stored D) (journal : Log J) (o : Owner) (finding : Finding)
    (strings : List (List ℕ)) (m : Made)
    → IsStartedOver o finding strings m → views.cluster ≡ o.cluster → Holds seen may_leave views m.pair →
    IsHeld log_seen log_may_leave journal
    → IsMemory (head_of o.cluster o.index o.count m.pair.restarts) (state m.replica)
    (recorded (log_seen journal.device))
    → IsRunning seen may_leave log_seen log_may_leave views (Some journal) m.replica.index m.replica.count
    (state m.replica) m.pair.restarts
starts_running seen may_leave log_seen log_may_leave views journal o finding strings m h same stored held told =
    record {
      stored = subst (λ (p : Pair). Holds seen may_leave views p) (made_pair o finding strings m h) stored;
      held = held;
      told = subst (λ (c : ℕ). IsMemory (head_of c m.replica.index m.replica.count m.pair.restarts) (state m.replica)
          (recorded (log_seen journal.device))) (sym same)
          (subst (λ (i : ℕ). IsMemory (head_of o.cluster i m.replica.count m.pair.restarts) (state m.replica)
          (recorded (log_seen journal.device))) (sym h.made.index)
          (subst (λ (n : ℕ). IsMemory (head_of o.cluster o.index n m.pair.restarts) (state m.replica)
          (recorded (log_seen journal.device))) (sym h.made.count) told));
    }
