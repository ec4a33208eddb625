-- The invariant holds of every world. No rule of the protocol is looked into here.
use Rattle.std.proofs.Common.{◌≡◌, ℕ, zero, suc, ◌-◌, ◌==◌, nat_lt, nat_le, Bool, true, false, not, ◌&&◌, inl, inr, List, [], ◌∷◌, length, Option, Some, None, refl, sym, ap, subst, le_refl, le_of_eq, eq-eqb, slice_get, true≢false}
use Rattle.vr_state.proofs.Laws.{by_test, both_true}
use Rattle.vr_state.specs.Lists.{IsPrefix}
use Rattle.vr_state.specs.Outcome.{Outcome}
use Rattle.vr_state.specs.State.{State}
use Rattle.vr_state.specs.Step.{step, on_message, on_peer_message}
use Rattle.vr_state.specs.declared.message.PeerMessage.{PeerMessage}
use Rattle.vr_state.specs.Words.{LogEntry}
use Rattle.vr_world.proofs.Invariant.{Holds}
use Rattle.vr_world.proofs.Recoveries.{recover_holds}
use Rattle.vr_world.proofs.Agreement.{sent_said}
use Rattle.vr_world.proofs.ChangeEvents.{suspect_fine, start_view_change_fine, do_view_change_fine, start_view_fine, new_state_fine, get_state_fine, recovery_fine, response_fine}
use Rattle.vr_world.proofs.Invariant.{Given, Sent, Invariant, all_of}
use Rattle.vr_world.proofs.Resumptions.{there_up, all_made, crash_holds, resume_holds}
use Rattle.vr_world.proofs.Listed.{listed}
use Rattle.vr_world.proofs.NormalEvents.{FineAt, settle_idle, request_fine, prepare_fine, prepare_ok_fine, commit_fine, beat_fine}
use Rattle.vr_world.proofs.Said.{start_log_within}
use Rattle.vr_world.proofs.Sends.{enveloped}
use Rattle.vr_world.specs.Law.{IsSize}
use Rattle.vr_world.specs.World.{World, Message, WorldEvent, put, posted, stepped, delivered, sent_as, happens, run}
use Rattle.vr_state.specs.declared.event.Event.TheVariants as event
use Rattle.vr_state.specs.declared.message.PeerMessage.TheVariants.{Prepare, PrepareOk, Commit, StartViewChange, DoViewChange, StartView, GetState, NewState, Recovery, RecoveryResponse}
use Rattle.vr_world.specs.declared.events.WorldEvent.TheVariants.{Request, Deliver, Suspect, Beat, Crash, Recover, Resume}

module _ {P : Type 0} (n : ℕ) (size : IsSize n) (replicas : ℕ → Option (State P)) (stored : ℕ → ℕ) (given : Given P)
    (ms : List (Message P)) (inv : Invariant n replicas stored given ms) (i : ℕ) (r : State P) (up : replicas i ≡
    Some r) where
  peer_fine : (from : ℕ) (b : PeerMessage P) → (from ≡ i → ⊥) → Sent (enveloped from i b) ms →
      FineAt n replicas stored given ms i (on_peer_message n i r from b)
  peer_fine from (Prepare v e p x) apart s = prepare_fine n size replicas stored given ms inv i r up from v e p x
      (inv.sound.messages (enveloped from i (Prepare v e p x)) s)
  peer_fine from (PrepareOk v p) apart s = prepare_ok_fine n size replicas stored given ms inv i r up from v p
      (sent_said v p p from (enveloped from i (PrepareOk v p)) ms s refl refl (le_refl p))
  peer_fine from (Commit v x) apart s = commit_fine n size replicas stored given ms inv i r up from v x
      (inv.sound.messages (enveloped from i (Commit v x)) s)
  peer_fine from (StartViewChange v) apart s = start_view_change_fine n size replicas stored given ms inv i r up from v
  peer_fine from (DoViewChange v c) apart s = do_view_change_fine n size replicas stored given ms inv i r up from v c s
  peer_fine from (StartView v held) apart s =
      let f = inv.sound.messages (enveloped from i (StartView v held)) s in
      start_view_fine n size replicas stored given ms inv i r up v held
      (record {
        started = f.started;
        within = subst (λ l. IsPrefix l (listed v ms)) (sym f.log)
            (start_log_within v ms);
        whole = le_of_eq (ap length (sym f.log));
      }) f.commit_number
  peer_fine from (GetState v x) apart s = get_state_fine n size replicas stored given ms inv i r up from v x
  peer_fine from (NewState v x tail) apart s = let f = inv.sound.messages (enveloped from i (NewState v x tail)) s
      in new_state_fine n size replicas stored given ms inv i r up from v x tail f.0 f.1
  peer_fine from (Recovery x) apart s = recovery_fine n size replicas stored given ms inv i r up from x
      (inv.sound.messages (enveloped from i (Recovery x)) s)
  peer_fine from (RecoveryResponse x a) apart s = response_fine n size replicas stored given ms inv i r up from x a
      apart s

  -- each message of another replica, as it comes
  message_fine : (from : ℕ) (b : PeerMessage P) → Sent (enveloped from i b) ms → FineAt n replicas stored given ms i
      (on_message n i r from b)
  message_fine from b s = by_test (FineAt n replicas stored given ms i) (nat_lt from n && not (from == i)) _ _
      (λ t. peer_fine from b (λ e. not_same (from == i) (both_true (nat_lt from n) _ t).1 (eq-eqb from i e)) s)
      (λ t. settle_idle n size replicas stored given ms inv i r up)
    where
      not_same : (c : Bool) → not c ≡ true → c ≡ true → ⊥
      not_same true e f = true≢false (sym e)
      not_same false e f = true≢false (sym f)

-- a message by its place was sent
get_sent : {P : Type 0} (ms : List (Message P)) (k : ℕ) (m : Message P) → slice_get ms k ≡ Some m → Sent m ms
get_sent [] k m e = absurd (cc e)
get_sent (x ∷ ms) zero m e = inl (cc e)
get_sent (x ∷ ms) (suc k) m e = inr (get_sent ms k m e)

-- so was one by its number
as_sent : {P : Type 0} (k : ℕ) (ms : List (Message P)) (m : Message P) → sent_as k ms ≡ Some m → Sent m ms
as_sent {P} k ms m e = by_test (λ (o : Option (Message P)). o ≡ Some m → Sent m ms) (nat_lt 0 k
    && nat_le k (length ms)) (slice_get ms (length ms - k)) None (λ t f. get_sent ms (length ms - k) m f)
    (λ t f. absurd (cc f)) e

module _ {P : Type 0} (n : ℕ) (size : IsSize n) (past : ℕ → List (LogEntry P)) where
  -- a step keeps the invariant
  step_holds : (w : World P) → Holds n past w → (i : ℕ) (step : State P → Outcome P) →
      ((r : State P) → all_of n w i ≡ Some r → FineAt n (all_of n w) w.stored
      (record { used = w.nonces; past = past }) w.messages i (step r)) → (o : Option (State P)) → w.replicas i ≡ o →
      Holds n past (stepped i step o w)
  step_holds w inv i step h None e = inv
  step_holds w inv i step h (Some r) e =
      subst (λ f. Invariant n f (put i (step r).state.view_number w.stored) (record { used = w.nonces; past = past })
      (posted i (step r).sends w.messages)) (sym (all_made n i (step r) w)) (h r (there_up n w i r e))

  -- so does a delivery
  deliver_holds : (w : World P) → Holds n past w → (o : Option (Message P)) → ((m : Message P) → o ≡ Some m →
      Sent m w.messages) → Holds n past (delivered n o w)
  deliver_holds w inv None s = inv
  deliver_holds w inv (Some m) s = step_holds w inv m.to (λ r. step n m.to r (event.Message m.from m.body))
      (λ r up. message_fine n size (all_of n w) w.stored (record { used = w.nonces; past = past }) w.messages inv m.to
      r up m.from m.body (s m refl)) (w.replicas m.to) refl

  -- each event keeps the invariant
  pub happens_holds : (w : World P) → Holds n past w → (e : WorldEvent P) → Holds n past (happens n w e)
  happens_holds w inv (Request i e) = by_test (Holds n past) (nat_lt i n) _ _
      (λ t. step_holds w inv i (λ r. step n i r (event.Request e)) (λ r up. request_fine n size (all_of n w) w.stored
      (record { used = w.nonces; past = past }) w.messages inv i r up e) (w.replicas i) refl) (λ t. inv)
  happens_holds w inv (Deliver k) = deliver_holds w inv (sent_as k w.messages) (λ m e. as_sent k w.messages m e)
  happens_holds w inv (Suspect i) = by_test (Holds n past) (nat_lt i n) _ _
      (λ t. step_holds w inv i (λ r. step n i r event.Suspect) (λ r up. suspect_fine n size (all_of n w) w.stored
      (record { used = w.nonces; past = past }) w.messages inv i r up r.status) (w.replicas i) refl) (λ t. inv)
  happens_holds w inv (Beat i) = by_test (Holds n past) (nat_lt i n) _ _
      (λ t. step_holds w inv i (λ r. step n i r event.Beat) (λ r up. beat_fine n size (all_of n w) w.stored
      (record { used = w.nonces; past = past }) w.messages inv i r up) (w.replicas i) refl) (λ t. inv)
  happens_holds w inv (Crash i) = by_test (Holds n past) (nat_lt i n) _ _ (λ t. crash_holds n past w inv i
      (w.replicas i) refl) (λ t. inv)
  happens_holds w inv (Recover i x) = by_test (Holds n past) (nat_lt i n) _ _ (λ t. recover_holds n past w inv i x
      (w.replicas i)) (λ t. inv)
  happens_holds w inv (Resume i k) = by_test (Holds n past) (nat_lt i n) _ _ (λ t. resume_holds n past w inv i k
      (w.replicas i) (w.kept i) refl refl) (λ t. inv)

  -- A whole schedule keeps it.
  pub run_holds : (es : List (WorldEvent P)) (w : World P) → Holds n past w → Holds n past (run n es w)
  run_holds [] w inv = inv
  run_holds (e ∷ es) w inv = run_holds es (happens n w e) (happens_holds w inv e)
