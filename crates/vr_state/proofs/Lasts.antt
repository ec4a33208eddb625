-- Who isn't normal after a step.
use Rattle.std.proofs.Common.{◌≡◌, ℕ, ◌+◌, ◌/◌, ◌==◌, nat_lt, nat_le, Bool, true, false, not, ◌&&◌, ◌||◌, [], ◌∷◌, ◌++◌, length, Option, Some, None, refl, sym, true≢false}
use Rattle.std.specs.List.{list_any}
use Rattle.vr_state.specs.declared.event.Event.{Event}
use Rattle.vr_state.specs.declared.event.Event.TheVariants.{Request, Message, Suspect, Beat}
use Rattle.vr_state.specs.declared.message.Change.{Change}
use Rattle.vr_state.specs.declared.message.PeerMessage.{PeerMessage}
use Rattle.vr_state.specs.declared.message.PeerMessage.TheVariants.{Prepare, PrepareOk, Commit, StartViewChange, DoViewChange, StartView, GetState, NewState, Recovery, RecoveryResponse}
use Rattle.vr_state.specs.declared.words.Latest.{Latest}
use Rattle.vr_state.specs.declared.words.Status.{Status}
use Rattle.vr_state.specs.declared.words.Status.TheVariants.{Normal, ViewChange, Recovering}
use Rattle.vr_state.specs.ClientTable.{latest}
use Rattle.vr_state.specs.NormalCase.{append, ask_primary, take_in}
use Rattle.vr_state.specs.Outcome.{Outcome, Snapshot, indices, count, is_noted, noted, commit_to}
use Rattle.vr_state.specs.Recovery.{is_ahead, keep, latest_view, held_in, end_recovery, try_recovery}
use Rattle.vr_state.specs.State.{State, primary, is_normal, is_recovering, leads, follows, is_behind, greatest_view}
use Rattle.vr_state.specs.StateTransfer.{is_news}
use Rattle.vr_state.specs.Step.{step, on_beat, on_suspicion, on_peer_message}
use Rattle.vr_state.specs.StepLaw.{LastIsKept, RecoversInItsView}
use Rattle.vr_state.specs.ViewChange.{on_suspect, enter, entered, own_change, note_change, is_changing_in, best, begin_view, try_begin, declare, note_start}
use Rattle.vr_state.proofs.Keeps.{recovering_is}
use Rattle.vr_state.proofs.Tests.{by_test}

-- from r to s: where s isn't normal
abbrev Lasts : {P : Type 0} → State P → State P → Type 0
Lasts r s = is_normal s.status ≡ false →
    (s.last_normal_view ≡ r.last_normal_view) × (is_recovering s.status ≡ is_recovering r.status)
    × (is_recovering s.status ≡ true → s.view_number ≡ r.view_number)

module _ {P : Type 0} (n i : ℕ) (r : State P) where
  -- of the state after this step
  abbrev Fine : Outcome P → Type 0
  Fine d = Lasts r d.state

  -- as it was
  idle_fine : Lasts r r
  idle_fine = λ _. (refl, refl, λ _. refl)

  -- where it didn't recover, entering a view changes neither
  entered_fine : (v : ℕ) → is_recovering r.status ≡ false → Lasts r (enter n v r)
  entered_fine v e = λ _. (refl, sym e, λ k. absurd (true≢false (sym k)))

  -- a view that begins, or not
  begin_fine : (s : State P) → Lasts r s → Fine (try_begin n i s)
  begin_fine s h = by_test Fine (is_noted s.do_view_changes i
      && nat_lt (n / 2) (count (is_noted s.do_view_changes) (indices n))) _ _
      (λ t. go (best s.do_view_changes (indices n))) (λ t. h)
    where
      go : (o : Option (Change P)) → Fine (begin_view n i s o)
      go None = h
      go (Some c) = λ e. absurd (true≢false e)

  note_fine : (j : ℕ) (c : Change P) (s : State P) → Lasts r s → Fine (try_begin n i (note_change j c s))
  note_fine j c s h = by_test (λ (x : State P). Fine (try_begin n i x)) (is_noted s.do_view_changes j) s
      (record s { do_view_changes = s.do_view_changes ++ (j, c) ∷ [] })
      (λ t. begin_fine s h) (λ t. begin_fine (record s { do_view_changes = s.do_view_changes ++ (j, c) ∷ [] }) h)

  declare_fine : (s : State P) → Lasts r s → Fine (declare n i s)
  declare_fine s h = by_test Fine (primary n s.view_number == i) _ _ (λ t. note_fine i (own_change s) s h) (λ t. h)

  start_fine : (s : State P) (from : ℕ) → Lasts r s → Fine (note_start n i s from)
  start_fine s from h = by_test Fine (list_any (λ j. j == from) s.start_view_changes) _ _ (λ t. h)
      (λ t. by_test Fine (length (s.start_view_changes ++ from ∷ []) == n / 2) _ _
      (λ k. declare_fine (record s { start_view_changes = s.start_view_changes ++ from ∷ [] }) h) (λ k. h))

  -- it has entered, or not
  whether : (v : ℕ) → is_recovering r.status ≡ false → Lasts r (entered n i v r)
  whether v e = by_test (Lasts r) (nat_lt r.view_number v) (enter n v r) r (λ t. entered_fine v e) (λ t. idle_fine)

  -- a recovery ends, or goes on
  try_fine : (s : State P) → Lasts r s → Fine (try_recovery n i s)
  try_fine s h = by_test Fine (nat_lt (n / 2) (count (is_noted s.responses) (indices n))
      && nat_le s.view_number (latest_view s.responses (indices n))) _ _
      (λ t. go (held_in (latest_view s.responses (indices n)) (noted (primary n (latest_view s.responses (indices n)))
      s.responses))) (λ t. h)
    where
      go : (o : Option (Snapshot P)) → Fine (end_recovery n i s (latest_view s.responses (indices n)) o)
      go None = h
      go (Some held) = λ e. absurd (true≢false e)

  message_fine : (from : ℕ) (m : PeerMessage P) → Fine (on_peer_message n i r from m)
  message_fine from (Prepare v e p x) = by_test Fine (is_behind r v) _ _ (λ t. idle_fine) (λ t.
      by_test Fine (follows n i r v) _ _ (λ k. by_test Fine (nat_le p (length (commit_to x (take_in e p r)).log)) _ _
      (λ s. taken) (λ s. taken)) (λ k. idle_fine))
    where
      taken : Lasts r (commit_to x (take_in e p r))
      taken = by_test (λ (s : State P). Lasts r (commit_to x s)) (p == length r.log + 1) (append e r) r
          (λ t _. (refl, refl, λ _. refl)) (λ t _. (refl, refl, λ _. refl))
  message_fine from (PrepareOk v p) = by_test Fine (leads n i r v && nat_le p (length r.log)) _ _
      (λ t _. (refl, refl, λ _. refl)) (λ t. idle_fine)
  message_fine from (Commit v x) = by_test Fine (is_behind r v) _ _ (λ t. idle_fine)
      (λ t. by_test Fine (follows n i r v) _ _ (λ k _. (refl, refl, λ _. refl)) (λ k. idle_fine))
  message_fine from (StartViewChange v) = by_test Fine (is_recovering r.status) _ _ (λ t. idle_fine)
      (λ t. by_test Fine (is_changing_in (entered n i v r) v) _ _ (λ k. start_fine (entered n i v r) from
      (whether v t)) (λ k. whether v t))
  message_fine from (DoViewChange v c) = by_test Fine (is_recovering r.status) _ _ (λ t. idle_fine)
      (λ t. by_test Fine (is_changing_in (entered n i v r) v && primary n v == i) _ _
      (λ k. note_fine from c (entered n i v r) (whether v t)) (λ k. whether v t))
  message_fine from (StartView v held) = by_test Fine (not (is_recovering r.status) && is_behind r v) _ _
      (λ t e. absurd (true≢false e)) (λ t. idle_fine)
  message_fine from (GetState v x) = by_test Fine (is_normal r.status && r.view_number == v
      && nat_le x (length r.log)) _ _ (λ t. idle_fine) (λ t. idle_fine)
  message_fine from (NewState v x tail) = by_test Fine (not (is_recovering r.status) && is_news r v x tail) _ _
      (λ t. by_test Fine (nat_le x r.commit_number) _ _ (λ k e. absurd (true≢false e)) (λ k. idle_fine))
      (λ t. idle_fine)
  message_fine from (Recovery x) = by_test Fine (is_normal r.status) _ _ (λ t. idle_fine) (λ t. idle_fine)
  message_fine from (RecoveryResponse x a) = by_test Fine (is_recovering r.status && x == r.nonce) _ _
      (λ t. try_fine (record r { responses = keep from a r.responses }) (λ _. (refl, refl, λ _. refl))) (λ t. idle_fine)

  -- each event
  fine : (e : Event P) → Fine (step n i r e)
  fine (Request e) = by_test Fine (leads n i r r.view_number) _ _ (λ t. ask (latest e.client r.log)) (λ t. idle_fine)
    where
      ask : (o : Option Latest) → Fine (ask_primary n i r e o)
      ask None = λ _. (refl, refl, λ _. refl)
      ask (Some last) = by_test Fine (nat_lt last.request_number e.request_number) _ _ (λ t _. (refl, refl, λ _. refl))
          (λ t. by_test Fine (last.request_number == e.request_number && nat_le last.op_number r.commit_number) _ _
          (λ s. idle_fine) (λ s. idle_fine))
  fine (Message from m) = by_test Fine (nat_lt from n && not (from == i)) _ _ (λ t. message_fine from m)
      (λ t. idle_fine)
  fine Suspect = go r.status
    where
      neither : (a b : Bool) → (a || b) ≡ false → a ≡ false
      neither true b e = absurd (true≢false e)
      neither false b e = refl

      leave : Fine (on_suspect n i r)
      leave = by_test Fine (is_recovering r.status || nat_le greatest_view r.view_number) _ _ (λ t. idle_fine)
          (λ t. entered_fine (r.view_number + 1) (neither (is_recovering r.status) _ t))

      go : (s : Status) → Fine (on_suspicion n i r s)
      go Normal = leave
      go ViewChange = leave
      go Recovering = by_test Fine (is_ahead n r) _ _ (λ t. idle_fine) (λ t. idle_fine)
  fine Beat = go r.status
    where
      go : (s : Status) → Fine (on_beat n i r s)
      go Normal = by_test Fine (primary n r.view_number == i) _ _
          (λ t. by_test Fine (nat_lt r.commit_number (length r.log)) _ _ (λ k. idle_fine) (λ k. idle_fine))
          (λ t. idle_fine)
      go ViewChange = idle_fine
      go Recovering = idle_fine

-- Who isn't normal after a step has the last normal view that it had.
pub last_is_kept : {P : Type 0} → LastIsKept P
last_is_kept n i r e h = let f = fine n i r e h in (f.0, f.1)

-- Who recovers after a step is in the view that it had.
pub recovers_in_its_view : {P : Type 0} → RecoversInItsView P
recovers_in_its_view n i r e h = (fine n i r e (recovering_is _ h)).2 h
