-- Which records the PREPAREs of a step carry, and which views its STARTVIEWs begin. What holds of a world isn't said here.
use Rattle.std.proofs.Common.{◌≡◌, ℕ, zero, suc, ◌+◌, ◌-◌, ◌/◌, ◌<◌, ◌==◌, nat_lt, nat_le, true, not, ◌&&◌, ◌||◌, ◌⊎◌, inl, inr, List, [], ◌∷◌, ◌++◌, map, length, Option, Some, None, refl, sym, ap, subst, slice_get}
use Rattle.std.proofs.lemmas.Bool.{ltb-true}
use Rattle.std.specs.List.{list_any}
use Rattle.vr_state.proofs.Laws.{by_test, both_true}
use Rattle.vr_state.specs.ClientTable.{latest}
use Rattle.vr_state.specs.Lists.{In}
use Rattle.vr_state.specs.NormalCase.{take_in, ask_primary, on_request, answer_prepare, prepare_again}
use Rattle.vr_state.specs.Outcome.{Outcome, commit_to, count, indices, is_noted, noted, others, send_to, to_all}
use Rattle.vr_state.specs.Recovery.{end_recovery, held_in, is_ahead, keep, latest_view, try_recovery}
use Rattle.vr_state.specs.State.{State, primary, leads, follows, is_behind, is_normal, is_changing, is_recovering, greatest_view}
use Rattle.vr_state.specs.StateTransfer.{can_answer, is_news}
use Rattle.vr_state.specs.Step.{step, on_beat, on_suspicion, on_peer_message, on_message}
use Rattle.vr_state.specs.ViewChange.{entered, enter_sends, is_changing_in, own_change, send_change, note_change, best, begin_view, try_begin, declare, note_start}
use Rattle.vr_state.specs.Words.{LogEntry}
use Rattle.vr_state.specs.declared.event.Event.{Event}
use Rattle.vr_state.specs.declared.event.Event.TheVariants as event
use Rattle.vr_state.specs.declared.message.Change.{Change}
use Rattle.vr_state.specs.declared.message.PeerMessage.{PeerMessage}
use Rattle.vr_state.specs.declared.message.PeerMessage.TheVariants.{Prepare, PrepareOk, Commit, StartViewChange, DoViewChange, StartView, GetState, NewState, Recovery, RecoveryResponse}
use Rattle.vr_state.specs.declared.message.Send.{Send}
use Rattle.vr_state.specs.declared.message.Snapshot.{Snapshot}
use Rattle.vr_state.specs.declared.words.Latest.{Latest}
use Rattle.vr_state.specs.declared.words.Status.{Status}
use Rattle.vr_state.specs.declared.words.Status.TheVariants.{Normal, ViewChange, Recovering}

-- each of these messages is so
abbrev pub Each : {P : Type 0} → (PeerMessage P → Type 0) → List (Send P) → Type 0
Each Q [] = Unit {0}
Each Q (s ∷ sends) = Q s.message × Each Q sends

-- v is a view that r enters at this step, or changes to already
abbrev pub Enters : {P : Type 0} → State P → ℕ → Type 0
Enters r v = (r.view_number < v) ⊎ ((is_changing r.status ≡ true) × (r.view_number ≡ v))

-- why r may send this at the event: a PREPARE is of the event's request, or of a normal replica's record; a STARTVIEW
-- begins a view that r changes to
abbrev pub Why : {P : Type 0} → State P → Event P → PeerMessage P → Type 0
Why r ev (Prepare v e p x) = (ev ≡ event.Request e) ⊎ ((is_normal r.status ≡ true) × In e r.log)
Why r ev (StartView v held) = Enters r v
Why r ev _ = Unit {0}

-- both lists are so
both_each : {P : Type 0} (Q : PeerMessage P → Type 0) (xs ys : List (Send P)) → Each Q xs → Each Q ys → Each Q (xs ++ ys)
both_each Q [] ys h k = k
both_each Q (x ∷ xs) ys h k = (h.0, both_each Q xs ys h.1 k)

-- One message to some.
pub same_each : {P : Type 0} (Q : PeerMessage P → Type 0) (b : PeerMessage P) → Q b → (js : List ℕ) →
    Each Q (map (λ j. send_to j b) js)
same_each Q b h [] = tt
same_each Q b h (j ∷ js) = (h, same_each Q b h js)

-- a record by its place is in the list
get_in : {A : Type 0} (xs : List A) (k : ℕ) (x : A) → slice_get xs k ≡ Some x → In x xs
get_in [] k x e = absurd (cc e)
get_in (y ∷ xs) zero x e = inl (cc e)
get_in (y ∷ xs) (suc k) x e = inr (get_in xs k x e)

module _ {P : Type 0} (n i : ℕ) (r : State P) (ev : Event P) where
  -- what is sent is sent by right
  abbrev Right : Outcome P → Type 0
  Right d = Each (Why r ev) d.sends

  -- one message to all others
  all_right : (b : PeerMessage P) → Why r ev b → Each (Why r ev) (to_all n i b)
  all_right b h = same_each (Why r ev) b h (others n i)

  -- a request at the primary
  ask_right : (e : LogEntry P) → ev ≡ event.Request e → (o : Option Latest) → Right (ask_primary n i r e o)
  ask_right e is None = all_right (Prepare r.view_number e (length r.log + 1) r.commit_number) (inl is)
  ask_right e is (Some last) = by_test Right (nat_lt last.request_number e.request_number) _ _
      (λ t. all_right (Prepare r.view_number e (length r.log + 1) r.commit_number) (inl is))
      (λ t. by_test Right (last.request_number == e.request_number && nat_le last.op_number r.commit_number) _ _
      (λ u. tt) (λ u. tt))

  -- a request
  request_right : (e : LogEntry P) → ev ≡ event.Request e → Right (on_request n i r e)
  request_right e is = by_test Right (leads n i r r.view_number) _ _ (λ t. ask_right e is (latest e.client r.log))
      (λ t. tt)

  -- the answer to a PREPARE
  answer_right : (from v p : ℕ) (s : State P) → Right (answer_prepare from v p s)
  answer_right from v p s = by_test Right (nat_le p (length s.log)) _ _ (λ t. (tt, tt)) (λ t. (tt, tt))

  -- a DOVIEWCHANGE is noted in the same view
  noted_view : (j : ℕ) (c : Change P) (s : State P) → (note_change j c s).view_number ≡ s.view_number
  noted_view j c s = by_test (λ (t : State P). t.view_number ≡ s.view_number) (is_noted s.do_view_changes j) s _
      (λ t. refl) (λ t. refl)

  -- a view begins
  begin_right : (s : State P) → Enters r s.view_number → (o : Option (Change P)) → Right (begin_view n i s o)
  begin_right s h None = tt
  begin_right s h (Some c) = same_each (Why r ev) (StartView s.view_number _) h (others n i)

  -- where enough are noted
  try_right : (s : State P) → Enters r s.view_number → Right (try_begin n i s)
  try_right s h = by_test Right (is_noted s.do_view_changes i
      && nat_lt (n / 2) (count (is_noted s.do_view_changes) (indices n))) _ _
      (λ t. begin_right s h (best s.do_view_changes (indices n))) (λ t. tt)

  -- of those that are noted with one more
  note_right : (j : ℕ) (c : Change P) (s : State P) → Enters r s.view_number → Right (try_begin n i (note_change j c s))
  note_right j c s h = try_right (note_change j c s) (subst (Enters r) (sym (noted_view j c s)) h)

  -- a DOVIEWCHANGE of its own is sent to another
  change_right : (s : State P) → Each (Why r ev) (send_change n i s)
  change_right s = by_test (Each (Why r ev)) (primary n s.view_number == i) _ _ (λ t. tt) (λ t. (tt, tt))

  -- or noted
  declare_right : (s : State P) → Enters r s.view_number → Right (declare n i s)
  declare_right s h = by_test Right (primary n s.view_number == i) _ _ (λ t. note_right i (own_change s) s h)
      (λ t. change_right s)

  -- a STARTVIEWCHANGE is noted
  start_right : (s : State P) (from : ℕ) → Enters r s.view_number → Right (note_start n i s from)
  start_right s from h = by_test Right (list_any (λ j. j == from) s.start_view_changes) _ _ (λ t. tt)
      (λ t. by_test Right (length (s.start_view_changes ++ from ∷ []) == n / 2) _ _
      (λ u. declare_right (record s { start_view_changes = s.start_view_changes ++ from ∷ [] }) h) (λ u. tt))

  -- the messages of who enters a view
  enter_right : (v : ℕ) → Each (Why r ev) (enter_sends n i v r)
  enter_right v = by_test (Each (Why r ev)) (nat_lt r.view_number v) _ _ (λ t. all_right (StartViewChange v) tt) (λ t. tt)

  -- the view that r changes to after it
  enters : (v : ℕ) → is_changing (entered n i v r).status ≡ true → Enters r (entered n i v r).view_number
  enters v = by_test (λ (s : State P). is_changing s.status ≡ true → Enters r s.view_number) (nat_lt r.view_number v) _ _
      (λ t e. inl (ltb-true r.view_number v t)) (λ t e. inr (e, refl))

  -- it changes to a view
  changes : (s : State P) (v : ℕ) → is_changing_in s v ≡ true → is_changing s.status ≡ true
  changes s v t = (both_true (is_changing s.status) _ t).0

  -- each message
  peer_right : (from : ℕ) (b : PeerMessage P) → Right (on_peer_message n i r from b)
  peer_right from (Prepare v e p x) = by_test Right (is_behind r v) _ _ (λ t. (tt, tt))
      (λ t. by_test Right (follows n i r v) _ _ (λ u. answer_right from v p (commit_to x (take_in e p r))) (λ u. tt))
  peer_right from (PrepareOk v p) = by_test Right (leads n i r v && nat_le p (length r.log)) _ _ (λ t. tt) (λ t. tt)
  peer_right from (Commit v x) = by_test Right (is_behind r v) _ _ (λ t. (tt, tt)) (λ t. by_test Right (follows n i r v)
      _ _ (λ u. by_test (Each (Why r ev)) (nat_lt (length r.log) x) _ _ (λ k. (tt, tt)) (λ k. tt)) (λ u. tt))
  peer_right from (StartViewChange v) = by_test Right (is_recovering r.status) _ _ (λ t. tt)
      (λ t. both_each (Why r ev) (enter_sends n i v r) _ (enter_right v) (by_test Right
      (is_changing_in (entered n i v r) v) _ _ (λ u. start_right (entered n i v r) from (enters v (changes
      (entered n i v r) v u))) (λ u. tt)))
  peer_right from (DoViewChange v c) = by_test Right (is_recovering r.status) _ _ (λ t. tt)
      (λ t. both_each (Why r ev) (enter_sends n i v r) _ (enter_right v) (by_test Right
      (is_changing_in (entered n i v r) v && primary n v == i) _ _ (λ u. note_right from c (entered n i v r)
      (enters v (changes (entered n i v r) v (both_true (is_changing_in (entered n i v r) v) _ u).0))) (λ u. tt)))
  peer_right from (StartView v held) = by_test Right (not (is_recovering r.status) && is_behind r v) _ _ (λ t. (tt, tt))
      (λ t. tt)
  peer_right from (GetState v x) = by_test Right (can_answer r v x) _ _ (λ t. (tt, tt)) (λ t. tt)
  peer_right from (NewState v x tail) = by_test Right (not (is_recovering r.status) && is_news r v x tail) _ _
      (λ t. by_test Right (nat_le x r.commit_number) _ _ (λ u. (tt, tt)) (λ u. (tt, tt))) (λ t. tt)
  peer_right from (Recovery x) = by_test Right (is_normal r.status) _ _ (λ t. (tt, tt)) (λ t. tt)
  peer_right from (RecoveryResponse x a) = by_test Right (is_recovering r.status && x == r.nonce) _ _
      (λ t. recovery (record r { responses = keep from a r.responses })) (λ t. tt)
    where
      ends : (s : State P) (v : ℕ) (o : Option (Snapshot P)) → Right (end_recovery n i s v o)
      ends s v None = tt
      ends s v (Some held) = tt

      recovery : (s : State P) → Right (try_recovery n i s)
      recovery s = by_test Right (nat_lt (n / 2) (count (is_noted s.responses) (indices n))
          && nat_le s.view_number (latest_view s.responses (indices n))) _ _
          (λ t. ends s (latest_view s.responses (indices n)) (held_in (latest_view s.responses (indices n))
          (noted (primary n (latest_view s.responses (indices n))) s.responses))) (λ t. tt)

  -- a message
  message_right : (from : ℕ) (b : PeerMessage P) → Right (on_message n i r from b)
  message_right from b = by_test Right (nat_lt from n && not (from == i)) _ _ (λ t. peer_right from b) (λ t. tt)

  -- a suspicion
  suspect_right : (s : Status) → Right (on_suspicion n i r s)
  suspect_right Normal = by_test Right (is_recovering r.status || nat_le greatest_view r.view_number) _ _ (λ t. tt)
      (λ t. all_right (StartViewChange (r.view_number + 1)) tt)
  suspect_right ViewChange = by_test Right (is_recovering r.status || nat_le greatest_view r.view_number) _ _ (λ t. tt)
      (λ t. all_right (StartViewChange (r.view_number + 1)) tt)
  suspect_right Recovering = by_test Right (is_ahead n r) _ _ (λ t. all_right (StartViewChange r.view_number) tt)
      (λ t. tt)

  -- the last record again
  again_right : is_normal r.status ≡ true → (o : Option (LogEntry P)) → slice_get r.log (length r.log - 1) ≡ o →
      Each (Why r ev) (prepare_again n i r o)
  again_right h None e = tt
  again_right h (Some x) e = all_right (Prepare r.view_number x (length r.log) r.commit_number)
      (inr (h, get_in r.log (length r.log - 1) x e))

  -- a beat
  beat_right : (s : Status) → r.status ≡ s → Right (on_beat n i r s)
  beat_right Normal e = by_test Right (primary n r.view_number == i) _ _
      (λ t. by_test Right (nat_lt r.commit_number (length r.log)) _ _
      (λ u. again_right (ap is_normal e) (slice_get r.log (length r.log - 1)) refl)
      (λ u. all_right (Commit r.view_number r.commit_number) tt)) (λ t. tt)
  beat_right ViewChange e = both_each (Why r ev) (to_all n i (StartViewChange r.view_number)) _
      (all_right (StartViewChange r.view_number) tt)
      (by_test (Each (Why r ev)) (nat_le (n / 2) (length r.start_view_changes)) _ _ (λ t. change_right r) (λ t. tt))
  beat_right Recovering e = all_right (Recovery r.nonce) tt

-- Each step sends what it sends by right.
pub step_right : {P : Type 0} (n i : ℕ) (r : State P) (ev : Event P) → Each (Why r ev) (step n i r ev).sends
step_right n i r (event.Request e) = request_right n i r (event.Request e) e refl
step_right n i r (event.Message from b) = message_right n i r (event.Message from b) from b
step_right n i r event.Suspect = suspect_right n i r event.Suspect r.status
step_right n i r event.Beat = beat_right n i r event.Beat r.status refl
