-- A replica goes on from its journal as it was.
use Rattle.std.proofs.Common.{◌≡◌, ◌≢◌, ℕ, ◌<◌, nat_lt, false, cond, List, [], ◌∷◌, ◌++◌, Option, Some, None, refl, sym, ap, ◌∙◌, subst, lt-ltb}
use Rattle.vr_state.proofs.Laws.{by_test}
use Rattle.vr_state.specs.Outcome.{Outcome, idle, to_all}
use Rattle.vr_state.specs.State.{State, is_recovering, recovering, resuming}
use Rattle.vr_state.specs.Step.{step}
use Rattle.vr_state.specs.ViewChange.{own_change}
use Rattle.vr_state.specs.declared.event.Event.TheVariants as event
use Rattle.vr_state.specs.declared.message.Change.{Change}
use Rattle.vr_state.specs.declared.message.PeerMessage.TheVariants as message
use Rattle.vr_world.proofs.Invariant.{all_of}
use Rattle.vr_world.proofs.Moves.{put_same, put_other}
use Rattle.vr_world.proofs.NormalEvents.{up_of}
use Rattle.vr_world.proofs.Resumptions.{there_up}
use Rattle.vr_world.proofs.Theorems.{after_holds, run-append}
use Rattle.vr_world.specs.Law.{IsApart, AreApart, JournalsKeep}
use Rattle.vr_world.specs.World.{World, WorldEvent, Message, put, made, stepped, delivered, crashed, recovered, resumed, kept_of, has_used, sent_as, happens, run, start, after}
use Rattle.vr_world.specs.declared.events.WorldEvent.TheVariants.{Request, Deliver, Suspect, Beat, Crash, Recover, Resume}

module _ {P : Type 0} (n i v : ℕ) (c : Option (Change P)) where
  -- replica i is down, with this stored view, and this is kept of it
  pub record IsDown (w : World P) : Type 0 where
    pub down : w.replicas i ≡ None
    pub stored : w.stored i ≡ v
    pub kept : w.kept i ≡ c

  -- another makes a step
  down_made : (w : World P) (j : ℕ) (d : Outcome P) → i ≢ j → IsDown w → IsDown (made j d w)
  down_made w j d ne h = record {
    down = put_other j (Some d.state) w.replicas i ne ∙ h.down;
    stored =
        put_other j d.state.view_number w.stored i ne ∙ h.stored;
    kept = h.kept;
  }

  -- who is up is another
  apart_up : (w : World P) → IsDown w → (j : ℕ) (r : State P) → w.replicas j ≡ Some r → i ≢ j
  apart_up w h j r e f = absurd (cc (h.down, e, ap w.replicas f))

  -- a step
  down_stepped : (w : World P) (j : ℕ) (act : State P → Outcome P) (o : Option (State P)) → w.replicas j ≡ o →
      IsDown w → IsDown (stepped j act o w)
  down_stepped w j act None e h = h
  down_stepped w j act (Some r) e h = down_made w j (act r) (apart_up w h j r e) h

  -- a delivery
  down_delivered : (w : World P) (o : Option (Message P)) → IsDown w → IsDown (delivered n o w)
  down_delivered w None h = h
  down_delivered w (Some m) h = down_stepped w m.to (λ r. step n m.to r (event.Message m.from m.body))
      (w.replicas m.to) refl h

  -- a crash
  down_crashed : (w : World P) (j : ℕ) (o : Option (State P)) → w.replicas j ≡ o → IsDown w → IsDown (crashed j o w)
  down_crashed w j None e h = h
  down_crashed w j (Some r) e h = let ne = apart_up w h j r e in record {
    down = put_other j None w.replicas i ne
        ∙ h.down;
    stored = h.stored;
    kept = put_other j (kept_of r) w.kept i ne ∙ h.kept;
  }

  -- a recovery of another
  down_recovered : (w : World P) (j x : ℕ) (o : Option (State P)) → j ≢ i → IsDown w → IsDown (recovered n j x o w)
  down_recovered w j x (Some r) ne h = h
  down_recovered w j x None ne h = by_test IsDown (has_used x (w.nonces j)) _ _ (λ t. h)
      (λ t. down_made (record w { nonces = put j (x ∷ w.nonces j) w.nonces }) j
      (record { state = recovering n (w.stored j) x; sends = to_all n j (message.Recovery x); replies = [] })
      (λ e. ne (sym e)) (record { down = h.down; stored = h.stored; kept = h.kept }))

  -- a return of another
  down_resumed : (w : World P) (j k : ℕ) (o : Option (State P)) (d : Option (Change P)) → j ≢ i → IsDown w →
      IsDown (resumed n j k o d w)
  down_resumed w j k (Some r) d ne h = h
  down_resumed w j k None None ne h = h
  down_resumed w j k None (Some d) ne h = down_made (record w { kept = put j None w.kept }) j
      (idle (resuming n (w.stored j) k d)) (λ e. ne (sym e))
      (record { down = h.down; stored = h.stored; kept = put_other j None w.kept i (λ e. ne (sym e)) ∙ h.kept })

  -- an event that doesn't bring it back
  down_happens : (w : World P) (e : WorldEvent P) → IsApart i e → IsDown w → IsDown (happens n w e)
  down_happens w (Request j e) a h = by_test IsDown (nat_lt j n) _ _
      (λ t. down_stepped w j (λ r. step n j r (event.Request e)) (w.replicas j) refl h) (λ t. h)
  down_happens w (Deliver k) a h = down_delivered w (sent_as k w.messages) h
  down_happens w (Suspect j) a h = by_test IsDown (nat_lt j n) _ _
      (λ t. down_stepped w j (λ r. step n j r event.Suspect) (w.replicas j) refl h) (λ t. h)
  down_happens w (Beat j) a h = by_test IsDown (nat_lt j n) _ _ (λ t. down_stepped w j (λ r. step n j r event.Beat)
      (w.replicas j) refl h) (λ t. h)
  down_happens w (Crash j) a h = by_test IsDown (nat_lt j n) _ _ (λ t. down_crashed w j (w.replicas j) refl h) (λ t. h)
  down_happens w (Recover j x) a h = by_test IsDown (nat_lt j n) _ _ (λ t. down_recovered w j x (w.replicas j) a h)
      (λ t. h)
  down_happens w (Resume j k) a h = by_test IsDown (nat_lt j n) _ _ (λ t. down_resumed w j k (w.replicas j) (w.kept j)
      a h) (λ t. h)

  -- Events that don't bring it back.
  pub down_run : (es : List (WorldEvent P)) (w : World P) → AreApart i es → IsDown w → IsDown (run n es w)
  down_run [] w a h = h
  down_run (e ∷ es) w a h = down_run es (happens n w e) a.1 (down_happens w e a.0 h)

-- A crash takes it down,
goes_down : {P : Type 0} (n i : ℕ) (w : World P) (r : State P) → i < n → w.replicas i ≡ Some r →
    is_recovering r.status ≡ false → IsDown n i (w.stored i) (Some (own_change r)) (happens n w (Crash i))
goes_down {P} n i w r lt up active =
    subst (λ b. IsDown n i (w.stored i) (Some (own_change r)) (cond b (crashed i (w.replicas i) w) w))
    (sym (lt-ltb i n lt))
    (subst (λ o. IsDown n i (w.stored i) (Some (own_change r)) (crashed i o w)) (sym up)
    (record {
      down = put_same i None w.replicas;
      stored = refl;
      kept = put_same i (kept_of r) w.kept
          ∙ ap (λ b. cond b None (Some (own_change r))) active;
    }))

-- and a return brings it back as it was.
comes_back : {P : Type 0} (n i v k : ℕ) (c : Change P) (w : World P) → i < n → IsDown n i v (Some c) w →
    (happens n w (Resume i k)).replicas i ≡ Some (resuming n v k c)
comes_back {P} n i v k c w lt h =
    subst (λ b. (cond b (resumed n i k (w.replicas i) (w.kept i) w) w).replicas i ≡ Some (resuming n v k c))
    (sym (lt-ltb i n lt))
    (subst (λ o. (resumed n i k o (w.kept i) w).replicas i ≡ Some (resuming n v k c)) (sym h.down)
    (subst (λ d. (resumed n i k None d w).replicas i ≡ Some (resuming n v k c)) (sym h.kept)
    (put_same i (Some (resuming n (w.stored i) k c)) w.replicas ∙ ap (λ u. Some (resuming n u k c)) h.stored)))

-- A replica goes on from its journal as it was.
pub journals_keep : {P : Type 0} → JournalsKeep P
journals_keep {P} n size es more i k r lt up active apart =
    ap (λ (u : World P). u.replicas i) (run-append n es (Crash i ∷ (more ++ Resume i k ∷ [])) (start n)
    ∙ run-append n more (Resume i k ∷ []) (happens n w (Crash i)))
    ∙ comes_back n i (w.stored i) k (own_change r) (run n more (happens n w (Crash i))) lt
    (down_run n i (w.stored i) (Some (own_change r)) more (happens n w (Crash i)) apart
    (goes_down n i w r lt up active))
    ∙ ap (λ u. Some (resuming n u k (own_change r)))
    (sym (up_of n (all_of n w) w.stored (record { used = w.nonces; past = λ v. [] }) w.messages
    (after_holds n size es) i r (there_up n w i r up)).view_number)
  where
    w : World P
    w = after n es
