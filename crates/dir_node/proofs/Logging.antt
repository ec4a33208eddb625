-- A journal goes along with its node.
use Rattle.std.proofs.Common.{◌≡◌, ℕ, List, Bool, Option, Some, None, is_some, sym, subst}
use Rattle.state_machine.specs.dir_store.ldap_op.Values.{OpValue}
use Rattle.log_journal.specs.Kept.{IsMemory}
use Rattle.log_journal.specs.Told.{Told}
use Rattle.log_journal.specs.journal.Frames.{recorded}
use Rattle.log_journal.specs.journal.declared.journal.Journal.{Journal}
use Rattle.view_store.specs.Stored.{Stored}
use Rattle.vr_state.specs.State.{State}
use Rattle.dir_node.specs.Logged.{LeavesTold, LeavesOnlyIn, device_in, head_of}
use Rattle.dir_node.specs.private.Logged.{GoesAlong, IsHeldIn, IsToldIn}
use Rattle.dir_node.specs.private.NodeState.{Holds, IsRunning}

-- A settled journal leaves, at every crash, what it tells.
pub left_told : {J : Type 0} (seen : J → List ℕ) (may_leave : J → List ℕ → Type 0) (journal : Option (Journal J))
    (t : Told) (r : State OpValue) → IsHeldIn seen may_leave journal → IsToldIn seen journal t r
    → LeavesTold may_leave journal t r
left_told seen may_leave None t r held told = tt
left_told seen may_leave (Some j) t r held told = λ image left. subst (λ (l : List ℕ). IsMemory t r (recorded l))
    (sym (held.durable image left)) told

-- A journal that isn't called.
pub goes_nowhere : {J : Type 0} (seen : J → List ℕ) (may_leave : J → List ℕ → Type 0) (r s : State OpValue)
    (journal : Option (Journal J)) → s ≡ r → IsHeldIn seen may_leave journal → GoesAlong seen may_leave r s journal
    journal
goes_nowhere seen may_leave r s journal e held = record {
  held = held;
  told = λ t h.
      subst (λ (x : State OpValue). IsToldIn seen journal t x) (sym e) h;
}

-- Where there is none, anything goes along.
pub none_along : {J : Type 0} (seen : J → List ℕ) (may_leave : J → List ℕ → Type 0) (r s : State OpValue)
    (old new : Option (Journal J)) → old ≡ None → new ≡ None → GoesAlong seen may_leave r s old new
none_along seen may_leave r s old new e f = record {
  held = subst (λ (j : Option (Journal _)). IsHeldIn seen may_leave
      j) (sym f) tt;
  told = λ t h. subst (λ (j : Option (Journal _)). IsToldIn seen j t s) (sym f) tt;
}

pub none_left : {J : Type 0} (moment : J → ℕ) (left_since : J → ℕ → List ℕ → Type 0) (old new : Option (Journal J))
    (P : List ℕ → Type 0) → old ≡ None → new ≡ None → LeavesOnlyIn moment left_since (device_in old) (device_in new) P
none_left moment left_since old new P e f =
    subst (λ (j : Option (Journal _)). LeavesOnlyIn moment left_since (device_in j) (device_in new) P) (sym e)
    (subst (λ (j : Option (Journal _)). LeavesOnlyIn moment left_since None (device_in j) P) (sym f) tt)

module _ {D J : Type 0} (seen : D → List ℕ) (may_leave : D → List ℕ → Type 0) (log_seen : J → List ℕ)
    (log_may_leave : J → List ℕ → Type 0) where
  -- the stored pair says as before whether there is a journal
  pub still_stored : (views : Stored D) (old new : Option (Journal J)) (view restarts : ℕ) → is_some new ≡
      is_some old → Holds seen may_leave views (record { view = view; restarts = restarts; journaled = is_some old })
      → Holds seen may_leave views (record { view = view; restarts = restarts; journaled = is_some new })
  still_stored views old new view restarts e h = subst (λ (b : Bool). Holds seen may_leave views
      (record { view = view; restarts = restarts; journaled = b })) (sym e) h

  -- a node after steps, whose pair is stored and whose journal went along
  pub runs_on : (views next : Stored D) (old new : Option (Journal J)) (index count i n : ℕ) (r s : State OpValue)
      (restarts : ℕ) → IsRunning seen may_leave log_seen log_may_leave views old index count r restarts
      → next.cluster ≡ views.cluster → i ≡ index → n ≡ count → Holds seen may_leave next
      (record { view = s.view_number; restarts = restarts; journaled = is_some new }) →
      GoesAlong log_seen log_may_leave r s old new
      → IsRunning seen may_leave log_seen log_may_leave next new i n s restarts
  runs_on views next old new index count i n r s restarts run same e f stored along = record {
    stored = stored;
    held = along.held;
    told = subst (λ (c : ℕ). IsToldIn log_seen new (head_of c i n restarts) s) (sym same)
        (subst (λ (j : ℕ). IsToldIn log_seen new (head_of views.cluster j n restarts) s) (sym e)
        (subst (λ (k : ℕ). IsToldIn log_seen new (head_of views.cluster index k restarts) s) (sym f)
        (along.told (head_of views.cluster index count restarts) run.told)));
  }

  -- a node whose journal went along, whatever became of its pair
  pub tells_on : (views next : Stored D) (old new : Option (Journal J)) (index count i n : ℕ) (r s : State OpValue)
      (restarts : ℕ) → IsRunning seen may_leave log_seen log_may_leave views old index count r restarts
      → next.cluster ≡ views.cluster → i ≡ index → n ≡ count → GoesAlong log_seen log_may_leave r s old new →
      LeavesTold log_may_leave new (head_of next.cluster i n restarts) s
  tells_on views next old new index count i n r s restarts run same e f along =
      left_told log_seen log_may_leave new (head_of next.cluster i n restarts) s along.held
      (subst (λ (c : ℕ). IsToldIn log_seen new (head_of c i n restarts) s) (sym same)
      (subst (λ (j : ℕ). IsToldIn log_seen new (head_of views.cluster j n restarts) s) (sym e)
      (subst (λ (k : ℕ). IsToldIn log_seen new (head_of views.cluster index k restarts) s) (sym f)
      (along.told (head_of views.cluster index count restarts) run.told))))

  -- a running node's journal tells it after every crash
  pub left_running : (views : Stored D) (journal : Option (Journal J)) (index count : ℕ) (r : State OpValue)
      (restarts : ℕ) → IsRunning seen may_leave log_seen log_may_leave views journal index count r restarts
      → LeavesTold log_may_leave journal (head_of views.cluster index count restarts) r
  left_running views journal index count r restarts run = left_told log_seen log_may_leave journal
      (head_of views.cluster index count restarts) r run.held run.told
