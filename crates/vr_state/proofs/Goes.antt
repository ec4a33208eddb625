-- The log of a normal replica goes on while it stays in its view. A NEWSTATE is left out: it joins a tail to a
-- beginning of the log.
use Rattle.std.proofs.Common.{◌≡◌, ℕ, ◌+◌, ◌/◌, ◌<◌, ◌==◌, nat_lt, nat_le, Bool, true, false, cond, not, ◌&&◌, ◌||◌, ◌⊎◌, inl, inr, [], ◌∷◌, ◌++◌, length, Option, Some, None, arith, refl, ltb-true, true≢false}
use Rattle.std.specs.List.{list_any}
use Rattle.vr_state.specs.declared.event.Event.{Event}
use Rattle.vr_state.specs.declared.event.Event.TheVariants.{Request, Message, Suspect, Beat}
use Rattle.vr_state.specs.declared.message.Change.{Change}
use Rattle.vr_state.specs.declared.message.PeerMessage.{PeerMessage}
use Rattle.vr_state.specs.declared.message.PeerMessage.TheVariants.{Prepare, PrepareOk, Commit, StartViewChange, DoViewChange, StartView, GetState, NewState, Recovery, RecoveryResponse}
use Rattle.log_entry.specs.declared.words.LogEntry.{LogEntry}
use Rattle.vr_state.specs.declared.words.Latest.{Latest}
use Rattle.vr_state.specs.declared.words.Status.{Status}
use Rattle.vr_state.specs.declared.words.Status.TheVariants.{Normal, ViewChange, Recovering}
use Rattle.vr_state.specs.ClientTable.{latest}
use Rattle.vr_state.specs.NormalCase.{append, ask_primary, take_in}
use Rattle.vr_state.specs.Outcome.{Outcome, indices, count, is_noted, commit_to}
use Rattle.vr_state.specs.State.{State, primary, is_normal, is_changing, is_recovering, leads, follows, is_behind, greatest_view}
use Rattle.vr_state.specs.Recovery.{is_ahead}
use Rattle.vr_state.specs.Step.{step, on_beat, on_suspicion, on_peer_message}
use Rattle.vr_state.specs.StepLaw.{brings_tail, GoesOn, LogGoesOn}
use Rattle.vr_state.specs.ViewChange.{adopt, on_suspect, enter, entered, own_change, note_change, is_changing_in, best, begin_view, try_begin, declare, note_start}
use Rattle.vr_state.proofs.Keeps.{not_both, changing_is, recovering_is}
use Rattle.vr_state.proofs.Tests.{by_test, both_true, either_true}

module _ {P : Type 0} (n i : ℕ) (r : State P) (normal : is_normal r.status ≡ true) where
  -- the log goes on, where the view stays
  abbrev Goes : Outcome P → Type 0
  Goes d = d.state.view_number ≡ r.view_number → GoesOn r d.state

  -- a state in a later view
  abbrev Later : State P → Type 0
  Later s = r.view_number < s.view_number

  -- a replica that is normal doesn't change
  still : (b : Bool) → is_changing r.status ≡ true → ⊥
  still b e = not_both (is_normal r.status) normal (changing_is r.status e)

  -- nor does it recover
  here : is_recovering r.status ≡ true → ⊥
  here e = not_both (is_normal r.status) normal (recovering_is r.status e)

  -- a record is taken in
  take_goes : (e : LogEntry P) (p x : ℕ) → GoesOn r (commit_to x (take_in e p r))
  take_goes e p x = by_test (λ (s : State P). GoesOn r (commit_to x s)) (p == length r.log + 1) (append e r) r
      (λ t. (record { log = inr (e, refl); last = refl })) (λ t. (record { log = inl refl; last = refl }))

  -- a request
  request_goes : (e : LogEntry P) → Goes (step n i r (Request e))
  request_goes e = by_test Goes (leads n i r r.view_number) _ _ (λ t. ask (latest e.client r.log))
      (λ t f. (record { log = inl refl; last = refl }))
    where
      ask : (o : Option Latest) → Goes (ask_primary n i r e o)
      ask None = λ f. (record { log = inr (e, refl); last = refl })
      ask (Some last) = by_test Goes (nat_lt last.request_number e.request_number) _ _
          (λ t f. (record { log = inr (e, refl); last = refl }))
          (λ t. by_test Goes (last.request_number == e.request_number && nat_le last.op_number r.commit_number) _ _
          (λ s f. (record { log = inl refl; last = refl })) (λ s f. (record { log = inl refl; last = refl })))

  -- a view that begins is a later one
  begin_goes : (s : State P) → Later s → Goes (try_begin n i s)
  begin_goes s lt = by_test Goes (is_noted s.do_view_changes i
      && nat_lt (n / 2) (count (is_noted s.do_view_changes) (indices n))) _ _
      (λ t. go (best s.do_view_changes (indices n))) (λ t f. absurd (omega (arith, lt, f)))
    where
      go : (o : Option (Change P)) → Goes (begin_view n i s o)
      go None f = absurd (omega (arith, lt, f))
      go (Some c) f = absurd (omega (arith, lt, f))

  -- noting changes no view
  note_goes : (j : ℕ) (c : Change P) (s : State P) → Later s → Goes (try_begin n i (note_change j c s))
  note_goes j c s lt = by_test (λ (x : State P). Goes (try_begin n i x)) (is_noted s.do_view_changes j) s
      (record s { do_view_changes = s.do_view_changes ++ (j, c) ∷ [] })
      (λ t. begin_goes s lt) (λ t. begin_goes (record s { do_view_changes = s.do_view_changes ++ (j, c) ∷ [] }) lt)

  -- its own DOVIEWCHANGE
  declare_goes : (s : State P) → Later s → Goes (declare n i s)
  declare_goes s lt = by_test Goes (primary n s.view_number == i) _ _ (λ t. note_goes i (own_change s) s lt)
      (λ t f. absurd (omega (arith, lt, f)))

  -- a STARTVIEWCHANGE is noted
  start_goes : (s : State P) (from : ℕ) → Later s → Goes (note_start n i s from)
  start_goes s from lt = by_test Goes (list_any (λ j. j == from) s.start_view_changes) _ _
      (λ t f. absurd (omega (arith, lt, f)))
      (λ t. by_test Goes (length (s.start_view_changes ++ from ∷ []) == n / 2) _ _
      (λ k. declare_goes (record s { start_view_changes = s.start_view_changes ++ from ∷ [] }) lt)
      (λ k f. absurd (omega (arith, lt, f))))

  -- a message
  message_goes : (from : ℕ) (m : PeerMessage P) → brings_tail (Message from m) ≡ false →
      Goes (on_peer_message n i r from m)
  message_goes from (Prepare v e p x) plain = by_test Goes (is_behind r v) _ _
      (λ t f. (record { log = inl refl; last = refl })) (λ t.
      by_test Goes (follows n i r v) _ _ (λ k. by_test Goes (nat_le p (length (commit_to x (take_in e p r)).log)) _ _
      (λ s f. take_goes e p x) (λ s f. take_goes e p x)) (λ k f. (record { log = inl refl; last = refl })))
  message_goes from (PrepareOk v p) plain = by_test Goes (leads n i r v && nat_le p (length r.log)) _ _
      (λ t f. (record { log = inl refl; last = refl })) (λ t f. (record { log = inl refl; last = refl }))
  message_goes from (Commit v x) plain = by_test Goes (is_behind r v) _ _
      (λ t f. (record { log = inl refl; last = refl })) (λ t. by_test Goes (follows n i r v) _ _
      (λ k f. (record { log = inl refl; last = refl })) (λ k f. (record { log = inl refl; last = refl })))
  message_goes from (StartViewChange v) plain = by_test Goes (is_recovering r.status) _ _
      (λ t f. (record { log = inl refl; last = refl })) (λ t. go (nat_lt r.view_number v) refl)
    where
      go : (b : Bool) → nat_lt r.view_number v ≡ b →
          Goes (cond (is_changing_in (cond b (enter n v r) r) v) (note_start n i (cond b (enter n v r) r) from)
          (record { state = cond b (enter n v r) r; sends = []; replies = [] }))
      go true e = by_test Goes (is_changing_in (enter n v r) v) _ _ (λ t. start_goes (enter n v r) from
          (ltb-true _ _ e)) (λ t f. (record { log = inl refl; last = refl }))
      go false e = by_test Goes (is_changing_in r v) _ _
          (λ t. absurd (still true (both_true (is_changing r.status) _ t).0))
          (λ t f. (record { log = inl refl; last = refl }))
  message_goes from (DoViewChange v c) plain = by_test Goes (is_recovering r.status) _ _
      (λ t f. (record { log = inl refl; last = refl })) (λ t. go (nat_lt r.view_number v) refl)
    where
      go : (b : Bool) → nat_lt r.view_number v ≡ b →
          Goes (cond (is_changing_in (cond b (enter n v r) r) v && primary n v == i)
          (try_begin n i (note_change from c (cond b (enter n v r) r)))
          (record { state = cond b (enter n v r) r; sends = []; replies = [] }))
      go true e = by_test Goes (is_changing_in (enter n v r) v && primary n v == i) _ _
          (λ t. note_goes from c (enter n v r) (ltb-true _ _ e)) (λ t f. (record { log = inl refl; last = refl }))
      go false e = by_test Goes (is_changing_in r v && primary n v == i) _ _
          (λ t. absurd (still true (both_true (is_changing r.status) _ (both_true (is_changing_in r v) _ t).0).0))
          (λ t f. (record { log = inl refl; last = refl }))
  message_goes from (StartView v held) plain = by_test Goes (not (is_recovering r.status) && is_behind r v) _ _
      (λ t. behind (either_true (nat_lt r.view_number v) _ (both_true (not (is_recovering r.status)) _ t).1))
      (λ t f. (record { log = inl refl; last = refl }))
    where
      behind : (nat_lt r.view_number v ≡ true) ⊎ ((r.view_number == v && is_changing r.status) ≡ true) →
          v ≡ r.view_number → GoesOn r (adopt n v held r)
      behind (inl k) f = absurd (omega (arith, ltb-true _ _ k, f))
      behind (inr k) f = absurd (still true (both_true (r.view_number == v) _ k).1)
  message_goes from (GetState v x) plain = by_test Goes (is_normal r.status && r.view_number == v
      && nat_le x (length r.log)) _ _ (λ t f. (record { log = inl refl; last = refl }))
      (λ t f. (record { log = inl refl; last = refl }))
  message_goes from (NewState v x tail) plain = absurd (true≢false plain)
  message_goes from (Recovery x) plain = by_test Goes (is_normal r.status) _ _
      (λ t f. (record { log = inl refl; last = refl })) (λ t f. (record { log = inl refl; last = refl }))
  message_goes from (RecoveryResponse x a) plain = by_test Goes (is_recovering r.status && x == r.nonce) _ _
      (λ t. absurd (here (both_true (is_recovering r.status) _ t).0)) (λ t f. (record { log = inl refl; last = refl }))

  -- each event
  goes : (e : Event P) → brings_tail e ≡ false → Goes (step n i r e)
  goes (Request e) plain = request_goes e
  goes (Message from m) plain = by_test Goes (nat_lt from n && not (from == i)) _ _ (λ t. message_goes from m plain)
      (λ t f. (record { log = inl refl; last = refl }))
  goes Suspect plain = go r.status
    where
      leave : Goes (on_suspect n i r)
      leave = by_test Goes (is_recovering r.status || nat_le greatest_view r.view_number) _ _
          (λ t f. (record { log = inl refl; last = refl })) (λ t f. (record { log = inl refl; last = refl }))

      go : (s : Status) → Goes (on_suspicion n i r s)
      go Normal = leave
      go ViewChange = leave
      go Recovering = by_test Goes (is_ahead n r) _ _ (λ t f. (record { log = inl refl; last = refl }))
          (λ t f. (record { log = inl refl; last = refl }))
  goes Beat plain = go r.status
    where
      go : (s : Status) → Goes (on_beat n i r s)
      go Normal = by_test Goes (primary n r.view_number == i) _ _
          (λ t. by_test Goes (nat_lt r.commit_number (length r.log)) _ _
          (λ k f. (record { log = inl refl; last = refl })) (λ k f. (record { log = inl refl; last = refl })))
          (λ t f. (record { log = inl refl; last = refl }))
      go ViewChange = λ f. (record { log = inl refl; last = refl })
      go Recovering = λ f. (record { log = inl refl; last = refl })

-- While it is normal in one view, the log of a replica goes on.
pub log_goes_on : {P : Type 0} → LogGoesOn P
log_goes_on n i r e plain normal = goes n i r normal e plain
